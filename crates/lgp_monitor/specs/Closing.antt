-- Part of the public promise: what is answered where a point closes a source with faults: each
-- fault with its line of the source, a mark below the part that is at fault, and a sentence.
use Rattle.std.specs.Prelude.{ℕ, ◌-◌, Bool, false, not, ◌&&◌, ◌||◌, ◌==◌, if◌then◌else◌, Option, Some, None}
use Rattle.std.specs.Prelude.{option_map, List, [], ◌++◌, codes, flat_map, length, slice_get}
use Rattle.std.specs.Option.{option_map_or}
use Rattle.std.specs.Str.{bytes_eq}
use Rattle.lgp_source.specs.Source.{SourceLine, lines_of}
use Rattle.lgp_assembler.specs.Image.{faults_of}
use Rattle.lgp_assembler.specs.declared.refusal.Fault.{Fault}
use Rattle.lgp_assembler.specs.declared.refusal.FaultKind.{FaultKind}
use Rattle.lgp_assembler.specs.KindNames.{kind_name}
use Rattle.lgp_assembler.specs.Marks.{indent, marked_text}
use Rattle.lgp_help.specs.Tables.{fault_said}
use Rattle.lgp_stream.specs.KeptLine.{Kept}
use Rattle.lgp_script.specs.SourceCommands.{fault_line}
use Rattle.lgp_script.specs.SourceText.{SourceText}
use Rattle.lgp_script.specs.LabState.{opened_text}
use Rattle.lgp_script.specs.declared.refusal.Refusal.TheVariants.{TooLong}
use Rattle.lgp_monitor.specs.Reasons.{refused_text}

-- the text of the line at a place, counted from 0; after the last line there is none
abbrev pub text_at : List SourceLine → ℕ → Option (List ℕ)
text_at lines place = option_map (λ (line : SourceLine). line.text) (slice_get lines place)

-- what is wrong where a source has a kind of fault, and what would be right
unfoldable pub said_line : FaultKind → List ℕ
said_line kind = indent ++ (fault_said (kind_name kind) ++ codes "\n")

-- a fault of a source of these lines: its line as scripts have it, its marked line, and a sentence
unfoldable pub marked_fault : List SourceLine → Fault → List ℕ
marked_fault lines fault =
    fault_line fault
    ++ (option_map_or (marked_text fault.kind) (text_at lines (fault.line - 1)) []
    ++ said_line fault.kind)

-- the reply to the end of a source, if it has faults; a source that is empty has no line to show,
-- and of one that is too long nothing is kept
abbrev pub shown_faults : List ℕ → Option (List ℕ)
shown_faults source =
    if (length source == 0) || (length (faults_of source) == 0) then None
    else Some (codes "? 9 Faults\n" ++ flat_map (marked_fault (lines_of source)) (faults_of source))

-- whether a line ends a source: a point alone
abbrev pub is_source_end : Kept → Bool
is_source_end kept = not kept.longer && bytes_eq kept.front (codes ".")

-- whether an open source is too long or has faults, and whether a line closes such a source
unfoldable pub is_faulty : Option SourceText → Bool
is_faulty opened =
    option_map_or (λ source. source.too_long || not (length (faults_of source.text) == 0))
    opened false

abbrev pub closes_faulty : Option SourceText → Kept → Bool
closes_faulty opened kept = is_source_end kept && is_faulty opened

-- the reply to a line that closes a source with faults, or one that is too long; None to any other
unfoldable pub closing_reply : Option SourceText → Kept → Option (List ℕ)
closing_reply opened kept =
    if is_source_end kept
    then (if option_map_or (λ source. source.too_long) opened false
    then Some (refused_text TooLong) else shown_faults (opened_text opened))
    else None
