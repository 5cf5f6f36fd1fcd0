-- Part of the public promise: what an image is, where its words lie, and which places the loader
-- keeps. This project's own choice.
use Rattle.std.specs.Prelude.{◌≡◌, ◌≢◌, ◌⊎◌, ℕ, ◌<◌, ◌≤◌, ◌&&◌, nat_le, nat_lt, Bool, false, List}
use Rattle.std.specs.Prelude.{[], ◌∷◌, Option, length}
use Rattle.std.specs.List.{All, AllPairs}
use Rattle.lgp_word.specs.Address.{IsAddress}
use Rattle.lgp_word.specs.Word.{IsWord}

-- names, each with its value
abbrev pub NameList : Type 0
NameList = List (List ℕ × ℕ)

-- the words with their places in order of the lines, the start, and the names with their values in
-- order of the lines
pub record ImageParts : Type 0 where
  pub cells : List (ℕ × ℕ)
  pub start : Option ℕ
  pub symbols : NameList

-- the loader's 22 places, 6300 to 6321: the first of them, and the one after the last
abbrev pub loader_base : ℕ
loader_base = 4032

abbrev pub loader_past : ℕ
loader_past = 4054

abbrev pub is_loaders : ℕ → Bool
is_loaders place = nat_le loader_base place && nat_lt place loader_past

-- a cell of a program: a word on the drum, at no place of the loader
abbrev pub IsProgramCell : ℕ × ℕ → Type 0
IsProgramCell cell = IsAddress cell.0 × (is_loaders cell.0 ≡ false) × IsWord cell.1

abbrev pub AreProgramCells : List (ℕ × ℕ) → Type 0
AreProgramCells [] = Unit {0}
AreProgramCells (cell ∷ cells) = IsProgramCell cell × AreProgramCells cells

-- where the words of a source lie: each at a place of its own, on the drum, at none of the loader's
-- 22 places; so they are at most 4,074
pub record HaveOwnPlaces (cells : List (ℕ × ℕ)) : Type 0 where
  pub apart : AllPairs (λ one other. one.0 ≢ other.0) cells
  pub on_drum : All (λ cell. IsAddress cell.0) cells
  pub free : All (λ cell. (cell.0 < loader_base) ⊎ (loader_past ≤ cell.0)) cells
  pub few : length cells ≤ 4074
