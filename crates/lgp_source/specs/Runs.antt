-- Part of the public promise: what comments and tokens are, in the words of the source language. A
-- `;` at the line's start or after a blank begins a comment, and a token is a longest run without
-- blanks before it.
use Rattle.std.specs.Prelude.{◌≡◌, ◌⊎◌, ℕ, ◌+◌, ◌-◌, ◌<◌, ◌≤◌, ◌==◌, ◌&&◌, ◌||◌, Bool, true, false}
use Rattle.std.specs.Prelude.{List, [], ◌∷◌, length, take, drop, slice_index}
use Rattle.lgp_source.specs.Source.{SourceToken, is_blank}

-- a place is the line's start or follows a blank
abbrev pub follows_blank : List ℕ → ℕ → Bool
follows_blank text place = place == 0 || is_blank (slice_index text (place - 1))

-- a comment begins at a place
abbrev pub begins_comment : List ℕ → ℕ → Bool
begins_comment text place = follows_blank text place && slice_index text place == 59

-- `body` is the text up to the first place where a comment begins, or the whole text
pub record IsUpToComment (text body : List ℕ) : Type 0 where
  pub front : body ≡ take (length body) text
  pub none_before : (k : ℕ) → k < length body → begins_comment text k ≡ false
  pub then_comment : length body < length text → begins_comment text (length body) ≡ true

-- a token is the slice of a text at its span
abbrev pub IsSlice : List ℕ → SourceToken → Type 0
IsSlice text token = token.text ≡ take (token.past - token.first) (drop token.first text)

-- a token is a longest run of bytes that are no blanks, and the slice at its span
pub record IsLongestRun (body : List ℕ) (token : SourceToken) : Type 0 where
  pub some : token.first < token.past
  pub within : token.past ≤ length body
  pub slice : IsSlice body token
  pub visible : (k : ℕ) → token.first ≤ k → k < token.past → is_blank (slice_index body k) ≡ false
  pub starts : follows_blank body token.first ≡ true
  pub ends : token.past < length body → is_blank (slice_index body token.past) ≡ true

-- P holds of each item
abbrev pub Each : {A : Type 0} → (A → Type 0) → List A → Type 0
Each P [] = Unit {0}
Each P (item ∷ items) = P item × Each P items

-- a place lies within the span of one of the tokens
abbrev pub IsSpanned : ℕ → List SourceToken → Type 0
IsSpanned place [] = ⊥
IsSpanned place (token ∷ tokens) =
    ((token.first ≤ place) × (place < token.past)) ⊎ IsSpanned place tokens

-- each byte that is no blank lies in a token
abbrev pub AllAreSpanned : List ℕ → List SourceToken → Type 0
AllAreSpanned body tokens =
    (k : ℕ) → k < length body → is_blank (slice_index body k) ≡ false → IsSpanned k tokens

-- the tokens begin at `from` or later, each past the end of the one before it and the byte there
abbrev pub AreInOrder : ℕ → List SourceToken → Type 0
AreInOrder from [] = Unit {0}
AreInOrder from (token ∷ tokens) = (from ≤ token.first) × AreInOrder (token.past + 1) tokens
