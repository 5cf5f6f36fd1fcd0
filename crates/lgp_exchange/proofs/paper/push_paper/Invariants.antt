use Rattle.std.proofs.Common.{◌≡◌, ◌++◌, drop}
use Rattle.lgp_exchange.specs.Paper.{paper_from, paper_of}
use Rattle.lgp_exchange.proofs.paper.push_paper.Given as goal

abbrev pub invariant-loop-code : goal.invariant-loop-code
invariant-loop-code g l = l.text.items ++ paper_from l.carriage (drop l.code-index l.codes) ≡ l.fn.text.items ++ paper_of l.codes
