use Rattle.std.proofs.Common.{◌≡◌, ◌++◌, take}
use Rattle.lgp_exchange.specs.Paper.{row_text}
use Rattle.lgp_exchange.proofs.carriage.Carriage.push_row.Given as goal

abbrev pub invariant-loop-struck : goal.invariant-loop-struck
invariant-loop-struck g l = l.text.items ≡ l.fn.text.items ++ row_text (take l.struck-index l.struck-items)
