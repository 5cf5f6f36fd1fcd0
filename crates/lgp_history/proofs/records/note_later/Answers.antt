use Rattle.std.proofs.Common.{sym, arith, ◌<◌}
use Rattle.lgp_history.proofs.NotingLemmas.{noted-all, noted-next}
use Rattle.lgp_history.proofs.records.note_later.Goals as goal

pub loop-left-preserved : goal.loop-left-preserved
loop-left-preserved g c =
    let some : 0 < c.loop-left.left = omega arith in
    let at = sym c.in-Some.ensures in
    record {
      within = omega arith;
      places = c.note_change.ensures.places;
      grow = λ address. let before = c.loop-left.invariant.grow address in let after = c.note_change.ensures.grow address in omega arith;
      later = noted-next _ _ _ _ _ some at c.note_change.ensures.noted c.note_change.ensures.grow c.loop-left.invariant.later;
    }

pub returns-then-clock-noted_before-clause-noted : goal.returns-then-clock-noted_before-clause-noted
returns-then-clock-noted_before-clause-noted g c =
    let some : 0 < c.loop-left.left = omega arith in
    noted-all _ _ _ _ _ _ c.requires some (sym c.in-Some.ensures) (omega arith) c.loop-left.invariant.grow c.loop-left.invariant.later

pub returns-clause-noted : goal.returns-clause-noted
returns-clause-noted g c = λ i r at. c.loop-left.invariant.later i r (omega arith) at
