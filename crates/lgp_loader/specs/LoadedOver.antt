-- Part of the public promise. A drum after loading, in the words of the program.
use Rattle.std.specs.Prelude.{◌≡◌, ◌≢◌, ◌⊎◌, ℕ, ◌+◌, ◌<◌, ◌≤◌, List, slice_index}
use Rattle.std.specs.List.{All}

-- exactly a program's words over what was there: at the place of each of its cells that cell's
-- word, and everywhere else, but for the places from 4032 on that the loader has, 22 or ten of them,
-- the word that was there before
pub record IsLoadedOver (loader : ℕ) (old new : List ℕ) (cells : List (ℕ × ℕ)) : Type 0 where
  pub words : All (λ cell. slice_index new cell.0 ≡ cell.1) cells
  pub others : (place : ℕ) → (place < 4032) ⊎ (4032 + loader ≤ place)
      → All (λ cell. cell.0 ≢ place) cells
      → slice_index new place ≡ slice_index old place
