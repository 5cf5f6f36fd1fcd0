-- Serves proofs only: the lines of a source of which some were passed, and what is answered after a
-- source was closed.
use Rattle.std.specs.Prelude.{ℕ, ◌==◌, Bool, if◌then◌else◌, Option, Some, None, List, ◌++◌, codes}
use Rattle.std.specs.Prelude.{flat_map, length}
use Rattle.lgp_source.specs.Source.{SourceLine, lines_of}
use Rattle.lgp_assembler.specs.Image.{faults_of}
use Rattle.lgp_script.specs.declared.refusal.Refusal.TheVariants.{TooLong}
use Rattle.lgp_monitor.specs.Closing.{marked_fault}
use Rattle.lgp_monitor.specs.Reasons.{refused_text}

pub record PassedLines : Type 0 where
  pub all : List SourceLine
  pub count : ℕ

-- what is answered by the source with faults that is kept, and by what the laboratory has said
abbrev pub faulty_text : Option (List ℕ) → List ℕ → List ℕ
faulty_text None said = said
faulty_text (Some source) said =
    if length source == 0 then said
    else codes "? 9 Faults\n" ++ flat_map (marked_fault (lines_of source)) (faults_of source)

abbrev pub closed_text : Option (List ℕ) → Bool → List ℕ → List ℕ
closed_text faulty too_long said =
    if too_long then refused_text TooLong else faulty_text faulty said
