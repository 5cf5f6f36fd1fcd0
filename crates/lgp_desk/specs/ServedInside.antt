-- Serves proofs only: what is done for a desk over streams, step by step.
use Rattle.std.specs.Prelude.{◌≡◌, ◌⊎◌, ℕ, Bool, true, false, IfSome, Option, Some, None}
use Rattle.std.specs.Prelude.{List, [], ◌∷◌, ◌++◌, drop}
use Rattle.std.specs.Io.KnownBytes.{Appends}
use Rattle.std.specs.Str.Lines.{lines}
use Rattle.lgp_desk.specs.Desk.{Found, Kept, Onward, Seat, Told, Typed, said_to, wish_at}
use Rattle.lgp_desk.specs.Files.{FileCall}
use Rattle.lgp_desk.specs.Sessions.{AreFor, HasNames, IsTold, ending}
use Rattle.lgp_desk.specs.Sessions.{is_wished, lines_in, refused_at}
use Rattle.lgp_desk.specs.declared.wish.Wish.{Wish}
use Rattle.lgp_desk.specs.declared.wish.Wish.TheVariants as wishes

-- whether a desk wishes for a line, or for nothing more
abbrev pub needs_no_file : Wish → Bool
needs_no_file wishes.Line = true
needs_no_file wishes.Nothing = true
needs_no_file wish = false

-- whether this is told of files
abbrev pub is_of_files : Told → Bool
is_of_files Onward = true
is_of_files (Found read) = true
is_of_files (Kept kept) = true
is_of_files told = false

-- a wish that concerns files was granted, by these calls, with this text for it; or there is none
abbrev pub IsGranted : List FileCall → Seat → Seat → Option (List ℕ) → Type 0
IsGranted calls before after (Some text) =
    (told : Told) × (is_wished (wish_at before) told ≡ true) × (is_of_files told ≡ true)
    × (text ≡ (said_to before told).text) × (after ≡ (said_to before told).seat)
    × AreFor before told calls
IsGranted calls before after None =
    (needs_no_file (wish_at before) ≡ true) × (after ≡ before) × (calls ≡ [])

-- all such wishes were granted so far
pub record IsServing (calls : List FileCall) (before after : Seat) (w₀ w : Option (List ℕ))
    : Type 0 where
  pub told : List Told
  pub is_told : IsTold calls before after w₀ w told
  pub lines : lines_in told ≡ []
  pub names : (names : List (List ℕ)) → HasNames names told names

abbrev pub IsServed : List FileCall → Seat → Seat → Option (List ℕ) → Option (List ℕ) → Type 0
IsServed calls before after w₀ w =
    IsServing calls before after w₀ w × (needs_no_file (wish_at after) ≡ true)

-- a line was typed, the first of what was left to type
abbrev pub IsTypedIn : List ℕ → Option (List ℕ) → List ℕ → Type 0
IsTypedIn text left line =
    (rest : List ℕ) × (lines text ≡ line ∷ lines rest) × (left ≡ Some rest)

pub record IsTypedTo (before after : Seat) (left₀ left w₀ w : Option (List ℕ)) : Type 0 where
  pub line : List ℕ
  pub is_told : IsTold [] before after w₀ w (Typed line ∷ [])
  pub typed : IfSome left₀ (λ text. IsTypedIn text left line)

-- or there was no line, and what is said to the end was written
pub record IsClosedAt (before after : Seat) (left₀ w₀ w : Option (List ℕ)) : Type 0 where
  pub written : Appends w₀ w (ending true before)
  pub refused : after.has_refused ≡ refused_at true before
  pub typed : IfSome left₀ (λ text. lines text ≡ [])

abbrev pub IsTypedOrClosed : Bool → Seat → Seat → Option (List ℕ) → Option (List ℕ)
    → Option (List ℕ) → Option (List ℕ) → Type 0
IsTypedOrClosed true before after left₀ left w₀ w =
    IsTypedTo before after left₀ left w₀ w
IsTypedOrClosed false before after left₀ left w₀ w = IsClosedAt before after left₀ w₀ w

-- a session so far: the names that came first, and the lines that were typed
abbrev pub IsTypedSoFar : List ℕ → Option (List ℕ) → List Told → Type 0
IsTypedSoFar text left told =
    (rest : List ℕ) × (left ≡ Some rest) × (lines text ≡ lines_in told ++ lines rest)

pub record IsUnderWay (calls : List FileCall) (before : Seat)
    (names names_left : List (List ℕ)) (input left : Option (List ℕ)) (seat : Seat)
    (w₀ w : Option (List ℕ)) : Type 0 where
  pub told : List Told
  pub is_told : IsTold calls before seat w₀ w told
  pub names_told : HasNames names told names_left
  pub typed : IfSome input (λ text. IsTypedSoFar text left told)

-- no name is left, or `quit` was typed
abbrev pub AreAllOrLeft : List (List ℕ) → Seat → Type 0
AreAllOrLeft names_left seat = (names_left ≡ []) ⊎ (wish_at seat ≡ wishes.Nothing)

-- of the names that come first so many were told, and a line can be typed then
pub record HasToldFirsts (calls : List FileCall) (before after : Seat)
    (names : List (List ℕ)) (count : ℕ) (w₀ w : Option (List ℕ)) : Type 0 where
  pub told : List Told
  pub is_told : IsTold calls before after w₀ w told
  pub lines : lines_in told ≡ []
  pub names_told : HasNames names told (drop count names)
  pub takes : needs_no_file (wish_at after) ≡ true

-- all of them were told, or some until `quit` was typed, and a line can be typed then
abbrev pub HasFirsts : List FileCall → Seat → Seat → List (List ℕ) → Option (List ℕ)
    → Option (List ℕ) → Type 0
HasFirsts calls before after names w₀ w =
    (count : ℕ) × HasToldFirsts calls before after names count w₀ w
    × AreAllOrLeft (drop count names) after
