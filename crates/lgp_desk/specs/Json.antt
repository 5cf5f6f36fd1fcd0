-- Part of the public promise: what is written for a reply where programs read: a JSON object on a
-- line of its own, with the line, the lines of its reply, and whether it is a refusal.
use Rattle.std.specs.Prelude.{ℕ, ◌==◌, Bool, true, false, if◌then◌else◌, List, []}
use Rattle.std.specs.Prelude.{◌∷◌, ◌++◌, codes, length, map}
use Rattle.bstr.specs.Text.{lines_of, without_terminator}
use Rattle.lgp_fields.specs.Escaped.{escaped}
use Rattle.lgp_monitor.specs.declared.answered.Answered.{Answered}

-- ---- strings

unfoldable pub json_string : List ℕ → List ℕ
json_string text = codes "\"" ++ (escaped text ++ codes "\"")

-- ---- the lines of a reply

-- a line of a reply: as it is where each is an object already, and else as a string
unfoldable pub json_line : Bool → List ℕ → List ℕ
json_line objects line = if objects then line else json_string line

-- the lines, with a comma in front of each but the first
unfoldable pub json_lines : Bool → Bool → List (List ℕ) → List ℕ
json_lines objects first [] = []
json_lines objects first (line ∷ more) =
    (if first then [] else codes ",") ++ (json_line objects line ++ json_lines objects false more)

-- ---- the object

-- the line, or the front of a longer one and two points, where it is known
abbrev pub json_typed : List ℕ → Bool → List ℕ
json_typed front longer =
    codes "\"line\":\"" ++ (escaped front ++ (if longer then codes " ..\"," else codes "\","))

-- where the line comes from, where that is a file
unfoldable pub json_note : List ℕ → List ℕ
json_note note =
    if length note == 0 then [] else codes ",\"from\":" ++ json_string note

-- what comes after the line
unfoldable pub json_reply : Answered → List ℕ → List ℕ → List ℕ
json_reply answer note reply =
    codes "\"reply\":["
    ++ (json_lines answer.has_objects true (map without_terminator (lines_of reply))
    ++ ((if answer.is_refused then codes "],\"refused\":true" else codes "],\"refused\":false")
    ++ (json_note note ++ codes "}\n")))

-- for a line, and for a reply of the desk itself
unfoldable pub json_answer : List ℕ → Bool → List ℕ → Answered → List ℕ → List ℕ
json_answer front longer note answer reply =
    codes "{" ++ (json_typed front longer ++ json_reply answer note reply)

unfoldable pub json_own : List ℕ → Bool → List ℕ → List ℕ
json_own note refused reply =
    codes "{" ++ json_reply (record { is_refused = refused; has_objects = false }) note reply
