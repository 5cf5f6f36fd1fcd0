use Rattle.std.proofs.Common.{◌∙◌, ap}
use Rattle.lgp_monitor.specs.Reasons.{is_refusal}
use Rattle.lgp_monitor.proofs.PerformingLemmas.{told_line}
use Rattle.lgp_monitor.proofs.monitor.explain_run.Goals as goal

pub returns-clause-answer : goal.returns-clause-answer
returns-clause-answer g c =
    told_line _ _ _ _ _ _ _ _ _ _ c.in_ok-said.ensures.performed c.answers.ensures c.form-form.ensures c.in_ok-said.ensures.text c.in_ok-push_run_end.ensures

pub returns-clause-refused : goal.returns-clause-refused
returns-clause-refused g c = c.is_refusal.ensures ∙ ap is_refusal c.in_ok-said.ensures.performed.replied
