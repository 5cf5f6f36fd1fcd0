-- Serves proofs only: what a laboratory keeps to, and how it shows words.
use Rattle.std.specs.Prelude.{◌≡◌, ◌&&◌, ℕ, Bool, true, false, List, [], if◌then◌else◌, nat_lt, not}
use Rattle.lgp_table.specs.State.{State}
use Rattle.lgp_machine.specs.Answers.{passes_clock_end}
use Rattle.lgp_assembler.specs.Image.{faults_of, image_of}
use Rattle.lgp_assembler.specs.Parts.{ImageParts}
use Rattle.lgp_debugger.specs.declared.fault.Reason.{Reason}
use Rattle.lgp_debugger.specs.declared.fault.Reason.TheVariants.{Limit}
use Rattle.lgp_listing.specs.Dump.{cell_line}
use Rattle.lgp_script.specs.DrumCommands.{order_line}

-- a source without faults, and what it has made
pub record IsProgram (source : List ℕ) (image : ImageParts) : Type 0 where
  pub faultless : faults_of source ≡ []
  pub made : image ≡ image_of source

-- the line of a word, by its disassembly or by its digits
abbrev pub line_by : Bool → ℕ → ℕ → List ℕ
line_by disassembled = if disassembled then order_line else cell_line

-- a run ended since as many orders were performed as it was asked for
abbrev pub is_limit : Reason → Bool
is_limit Limit = true
is_limit reason = false

-- a longer run goes on after it
abbrev pub goes_past : ℕ → ℕ → Reason → State → Bool
goes_past limit most reason s =
    nat_lt most limit && (is_limit reason && not (passes_clock_end s))
