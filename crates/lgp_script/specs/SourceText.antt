-- Part of the public promise: a source as it is gathered, from the lines of a script or from a
-- file.
use Rattle.std.specs.Prelude.{ℕ, ◌+◌, ◌||◌, Bool, true, if◌then◌else◌, nat_lt, List, [], ◌++◌}
use Rattle.std.specs.Prelude.{length, codes}
use Rattle.lgp_script.specs.Limits.{source_limit}
use Rattle.lgp_stream.specs.KeptLine.{line_limit}

-- its bytes so far; of one that is too long none are kept
pub record SourceText : Type 0 where
  pub text : List ℕ
  pub too_long : Bool

-- a source of these bytes
unfoldable pub source_of : List ℕ → SourceText
source_of bytes =
    let too_long = nat_lt source_limit (length bytes) in
    record { text = if too_long then [] else bytes; too_long = too_long }

-- a source with more bytes after it
abbrev pub with_bytes : SourceText → List ℕ → SourceText
with_bytes source bytes =
    let too_long = source.too_long || nat_lt source_limit (length source.text + length bytes) in
    record { text = if too_long then [] else source.text ++ bytes; too_long = too_long }

-- a source with one line more and its line feed; a line above a script's limit makes it too long
abbrev pub with_line : SourceText → List ℕ → SourceText
with_line source line =
    if nat_lt line_limit (length line) then record { text = []; too_long = true }
    else with_bytes source (line ++ codes "\n")
