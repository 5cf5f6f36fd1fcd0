use Rattle.std.proofs.Common.{◌≡◌}
use Rattle.lgp_exchange.specs.Examined.{lines_in, words_after}
use Rattle.lgp_exchange.proofs.examined.put_lines.Given as goal

abbrev pub invariant-loop-line : goal.invariant-loop-line
invariant-loop-line g l = record {
  can : (goal.iterator-loop-line g).can_next l.line-iterator;
  finite : (goal.iterator-loop-line g).is_finite l.line-iterator;
  words : words_after l.drum l.line-iterator ≡ words_after l.fn.drum (lines_in l.fn.text);
}
