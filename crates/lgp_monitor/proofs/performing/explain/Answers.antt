use Rattle.std.proofs.Common.{◌∙◌, ap}
use Rattle.lgp_monitor.specs.Reasons.{is_refusal}
use Rattle.lgp_monitor.proofs.PerformingLemmas.{explained_line}
use Rattle.lgp_monitor.proofs.performing.explain.Goals as goal

pub returns-clause-answer : goal.returns-clause-answer
returns-clause-answer g c = explained_line _ _ _ _ _ _ _ _ c.in_ok-said.ensures c.answers.ensures c.in_ok-push_explained.ensures

pub returns-clause-refused : goal.returns-clause-refused
returns-clause-refused g c = c.is_refusal.ensures ∙ ap is_refusal c.in_ok-said.ensures.replied
