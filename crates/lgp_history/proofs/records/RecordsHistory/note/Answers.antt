use Rattle.std.proofs.Common.{subst, sym, List, ◌++◌, ◌∷◌, [], ◌≡◌}
use Rattle.circular_buffer.specs.Buffer.{Buffer, keep_last}
use Rattle.lgp_table.specs.State.{State}
use Rattle.lgp_history.specs.Steps.{Leads, stepped, with_step}
use Rattle.lgp_history.specs.RecordedInside.{Recorded, read, recorded}
use Rattle.lgp_history.specs.Step.{KeptStep, Step}
use Rattle.lgp_history.proofs.KeptSteps.{leads-more}
use Rattle.lgp_history.proofs.NotingLemmas.{noted-after}
use Rattle.lgp_history.proofs.RecordedSteps.{read-noted}
use Rattle.lgp_history.proofs.records.RecordsHistory.note.Goals as goal

-- the ring after a push, read with the state after the step
noted : (inside old new : Buffer Recorded) (note : Recorded) (before : State) (step : Step) → inside ≡ old → note ≡ recorded step before → new ≡ record { items = keep_last inside.capacity (inside.items ++ note ∷ []); capacity = inside.capacity }
    → read new.items (stepped step before) ≡ with_step old.capacity (read old.items before) before step
noted inside old new note before step view fits pushed = rw (pushed, view, fits) (read-noted old.capacity old.items before step)

pub invariant_of-self : goal.invariant_of-self
invariant_of-self g c =
    noted-after _ _ _ _ _ _ _ _ c.self.view_is c.requires.1.1.1 c.requires.1.1.2 c.self.invariant c.push_back-oldest.ensures.items

pub returns-clause-kept : goal.returns-clause-kept
returns-clause-kept g c = λ before step can fits led. noted _ _ _ _ before step c.self.view_is fits c.push_back-oldest.ensures.items

pub returns-clause-leads : goal.returns-clause-leads
returns-clause-leads g c = λ before step can fits led.
    let kept = noted _ _ _ _ before step c.self.view_is fits c.push_back-oldest.ensures.items in
    subst (λ (ks : List KeptStep). Leads ks (stepped step before)) (sym kept) (leads-more _ _ _ _ led can)
