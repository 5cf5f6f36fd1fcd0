use Rattle.lgp_stream.proofs.FirstLines.{IsWithin}
use Rattle.lgp_stream.proofs.line.first_line.Given as goal

abbrev pub invariant-loop-place : goal.invariant-loop-place
invariant-loop-place l = IsWithin l.text l.place l.open
