use Rattle.std.proofs.Common.{◌≡◌, ◌+◌, length, drop}
use Rattle.lgp_flexo.specs.Input.{passed_codes}
use Rattle.lgp_reader.proofs.reader.stop_length.Given as goal

abbrev pub invariant-loop-place : goal.invariant-loop-place
invariant-loop-place l = l.place + length (passed_codes (drop l.place l.codes)) ≡ length (passed_codes l.codes)
