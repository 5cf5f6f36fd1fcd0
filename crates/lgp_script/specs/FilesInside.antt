-- Serves proofs only: a source while it is read, and what is wanted of it.
use Rattle.std.specs.Prelude.{◌≡◌, ℕ, Option, List}
use Rattle.std.specs.Io.KnownBytes.{Consumes}
use Rattle.lgp_script.specs.Files.{FileAnswer, listed, run_to, taped}
use Rattle.lgp_script.specs.SourceText.{SourceText, source_of}
use Rattle.lgp_script.specs.declared.files.Wanted.{Wanted}
use Rattle.lgp_script.specs.declared.files.Wanted.TheVariants.{Listing, Tape, Run}

-- what was read so far was gathered
pub record HasGathered (r₀ r : Option (List ℕ)) (source : SourceText) : Type 0 where
  pub bytes : List ℕ
  pub consumed : Consumes r₀ r bytes
  pub gathered : source ≡ source_of bytes

-- the answer to a source without faults, by what is wanted of it
abbrev pub wanted_of : Wanted → List ℕ → FileAnswer
wanted_of Listing source = listed source
wanted_of Tape source = taped source
wanted_of (Run limit) source = run_to limit source
