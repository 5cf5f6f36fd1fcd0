use Rattle.std.proofs.Common.{◌+◌, ◌∙◌, ℕ, subst, sym, ap, zero-add}
use Rattle.lgp_table.specs.Interleaving.{Configuration}
use Rattle.lgp_table.proofs.After.{after_none}
use Rattle.lgp_when.specs.Meeting.{IsMeeting}
use Rattle.lgp_when.proofs.UntilLemmas.{none_met}
use Rattle.lgp_when.proofs.watch.Watch.new.Goals as goal

pub returns-clause-watching : goal.returns-clause-watching
returns-clause-watching g c = record {
  meeting = subst (IsMeeting c.new.result) (ap (λ (m : Configuration). m.state) c.machine.ensures ∙ sym (after_none c.args.debugger.now.state)) c.new.ensures.seen;
  left = ap (λ (n : ℕ). n + c.args.until.now.times) (none_met _ _) ∙ zero-add c.args.until.now.times;
}
