use Rattle.std.proofs.Common.{◌≡◌, ◌++◌, length}
use Rattle.lgp_flexo.specs.Input.{accumulator_after_all, left_after, met_stop, passed_codes}
use Rattle.lgp_reader.proofs.reader.pass_codes.Given as goal

abbrev pub invariant-loop-code : goal.invariant-loop-code
invariant-loop-code g l = record {
  accumulator : accumulator_after_all l.six_bit l.accumulator (passed_codes l.reader.left) ≡ accumulator_after_all l.six_bit l.fn.accumulator (passed_codes l.fn.reader.left);
  done : met_stop l.reader.left ≡ met_stop l.fn.reader.left;
  passed : l.reader.passed ++ passed_codes l.reader.left ≡ l.fn.reader.passed ++ passed_codes l.fn.reader.left;
  left : left_after l.reader.left ≡ left_after l.fn.reader.left;
  on : l.reader.on ≡ l.fn.reader.on;
}

abbrev pub decreases-loop-code : goal.decreases-loop-code
decreases-loop-code g l = length l.reader.left
