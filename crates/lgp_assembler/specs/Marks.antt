-- Part of the public promise: a faulty line of a source as it is shown, with a mark below the part
-- that the fault speaks of.
use Rattle.std.specs.Prelude.{ℕ, ◌+◌, ◌-◌, ◌==◌, nat_lt, if◌then◌else◌, Bool, true, false, Option, Some}
use Rattle.std.specs.Prelude.{None, List, [], ◌∷◌, ◌++◌, codes, drop, length, map, option_map}
use Rattle.std.specs.Prelude.{slice_get, take}
use Rattle.std.specs.Option.{option_map_or, option_or}
use Rattle.std.specs.Str.{byte}
use Rattle.lgp_source.specs.Source.{SourceLine, SourceToken, is_bad, lines_of}
use Rattle.lgp_assembler.specs.declared.refusal.FaultKind.{FaultKind}
use Rattle.lgp_assembler.specs.declared.refusal.FaultKind.TheVariants as kinds

-- ---- the part of a line that a fault speaks of: the place of its first byte, and the one after its
-- last

abbrev pub token_part : Option SourceToken → Option (ℕ × ℕ)
token_part token = option_map (λ it. (it.first, it.past)) token

-- from the first operand to the second, if there is one
abbrev pub operands_part : List (Option SourceToken) → Option (ℕ × ℕ)
operands_part (Some one ∷ Some two ∷ more) = Some (one.first, two.past)
operands_part (first ∷ more) = token_part first
operands_part [] = None

-- the label, or the operation where there is none
abbrev pub head_part : SourceLine → Option (ℕ × ℕ)
head_part line = token_part (option_or line.label line.operation)

-- the byte of a text at a place, which it has
abbrev pub byte_part : List ℕ → ℕ → ℕ × ℕ
byte_part text place = (place, if nat_lt place (length text) then place + 1 else place)

unfoldable pub part_of : FaultKind → SourceLine → Option (ℕ × ℕ)
part_of kinds.BadByte line = option_map (byte_part line.text) line.bad_byte
part_of kinds.AfterEnd line = head_part line
part_of kinds.BadLabel line = head_part line
part_of kinds.LabelTwice line = head_part line
part_of kinds.Extra line = operands_part line.operands
part_of kinds.BadOperand line = operands_part line.operands
part_of kinds.UnknownName line = operands_part line.operands
part_of kinds.OutOfRange line = operands_part line.operands
part_of kinds.NoEnd line = None
part_of other line = token_part line.operation

-- ---- what is shown: a line's first 200 bytes

-- a byte that no line may have is shown as a question mark
abbrev pub shown_byte : ℕ → ℕ
shown_byte b = if is_bad b then byte "?" else b

-- what is below a byte: the mark below one of the part; below any other a tab where it is one,
-- else a space
abbrev pub byte_below : Bool → ℕ → ℕ
byte_below marked b = if marked then byte "^" else (if b == 9 then 9 else 32)

abbrev pub indent : List ℕ
indent = codes "        "

-- the line, and ` ..` after it where not all of it is shown
abbrev pub shown_line : List ℕ → List ℕ
shown_line text =
    indent ++ (map shown_byte (take 200 text)
    ++ (if nat_lt 200 (length text) then codes " ..\n" else codes "\n"))

-- the line of the mark, where a byte of the part is shown
abbrev pub mark_line : List ℕ → List ℕ → List ℕ
mark_line front [] = []
mark_line front part =
    indent ++ (map (byte_below false) front ++ (map (byte_below true) part ++ codes "\n"))

-- ---- a text's first line with its mark; the empty text has none

abbrev pub marked_line : FaultKind → SourceLine → List ℕ
marked_line kind line =
    let shown = take 200 line.text in
    shown_line line.text
    ++ option_map_or
    (λ part. mark_line (take part.0 shown) (take (part.1 - part.0) (drop part.0 shown)))
    (part_of kind line) []

unfoldable pub marked_text : FaultKind → List ℕ → List ℕ
marked_text kind text = option_map_or (marked_line kind) (slice_get (lines_of text) 0) []
