-- Serves proofs only: the next line of a file whose lines are typed.
use Rattle.std.specs.Prelude.{◌≡◌, ℕ, ◌+◌, Option, Some, None, List, [], ◌∷◌}
use Rattle.lgp_stream.specs.KeptLine.{Kept, kept_of}
use Rattle.lgp_desk.specs.Desk.{Opened, Seat}

-- there is none, and nothing has changed; or this was kept of it, and it is one line less
abbrev pub HasNext : Opened → Opened → Option Kept → Type 0
HasNext before after None = (before.left ≡ []) × (after ≡ before)
HasNext before after (Some kept) =
    (line : List ℕ) × (more : List (List ℕ)) × (before.left ≡ line ∷ more) × (kept ≡ kept_of line)
    × (after ≡ record before { number = before.number + 1; left = more })

-- the same of the file whose lines are typed at a desk, of which nothing else changes
abbrev pub IsNextAt : Option Opened → Seat → Seat → Option Kept → Type 0
IsNextAt (Some file) before after next =
    (later : Opened) × HasNext file later next
    × (after ≡ record before { inner = Some later })
IsNextAt None before after next = (after ≡ before) × (next ≡ None)

abbrev pub HasNextOf : Seat → Seat → Option Kept → Type 0
HasNextOf before after next = IsNextAt before.inner before after next
