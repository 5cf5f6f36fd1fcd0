-- Part of the public promise: a text of JSON in pieces. A separator counts where it is neither in a
-- string nor in brackets of the text.
use Rattle.std.specs.Prelude.{ℕ, ◌+◌, ◌-◌, ◌==◌, ◌&&◌, ◌||◌, if◌then◌else◌, List, [], ◌∷◌, drop, take, length}

-- where the byte after this one stands: 0 outside of strings, 1 in a string, 2 after a backslash
abbrev pub next_place : ℕ → ℕ → ℕ
next_place place b =
    if place == 2 then 1
    else (if b == 34 then 1 - place else (if place == 1 && b == 92 then 2 else place))

-- in how many brackets it stands
abbrev pub next_depth : ℕ → ℕ → ℕ → ℕ
next_depth place depth b =
    if place == 0 && (b == 91 || b == 123) then depth + 1
    else (if place == 0 && (b == 93 || b == 125) then depth - 1 else depth)

-- a byte in front of the first piece
unfoldable pub in_first : ℕ → List (List ℕ) → List (List ℕ)
in_first b [] = (b ∷ []) ∷ []
in_first b (piece ∷ more) = (b ∷ piece) ∷ more

unfoldable pub pieces_at : ℕ → ℕ → ℕ → List ℕ → List (List ℕ)
pieces_at separator place depth [] = [] ∷ []
pieces_at separator place depth (b ∷ more) =
    if place == 0 && (b == separator && depth == 0)
    then [] ∷ pieces_at separator 0 0 more
    else in_first b (pieces_at separator (next_place place b) (next_depth place depth b) more)

-- the pieces of a text between such separators
abbrev pub pieces : ℕ → List ℕ → List (List ℕ)
pieces separator text = pieces_at separator 0 0 text

-- a text without the brackets around it
abbrev pub inside : List ℕ → List ℕ
inside text = take (length text - 2) (drop 1 text)
