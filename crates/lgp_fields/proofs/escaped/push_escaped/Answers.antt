use Rattle.std.proofs.Common.{◌∙◌, rules, sym}
use Rattle.lgp_fields.proofs.EscapedLemmas.{themselves}
use Rattle.lgp_fields.proofs.escaped.push_escaped.Goals as goal

pub returns-then-are_themselves : goal.returns-then-are_themselves
returns-then-are_themselves g c = rw (themselves _ (sym c.are_themselves.ensures ∙ c.if-are_themselves.true)) (search rules)
