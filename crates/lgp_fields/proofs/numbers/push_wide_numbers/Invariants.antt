use Rattle.std.proofs.Common.{◌≡◌, ◌++◌, decimal, drop, true}
use Rattle.lgp_fields.specs.Printed.{numbers_text}
use Rattle.lgp_fields.proofs.numbers.push_wide_numbers.Given as goal

abbrev pub invariant-loop-number : goal.invariant-loop-number
invariant-loop-number g l = l.text.items ++ numbers_text decimal l.between l.first (drop l.number-index l.numbers) ≡ l.fn.text.items ++ numbers_text decimal l.between true l.numbers
