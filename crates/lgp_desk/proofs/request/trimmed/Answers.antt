use Rattle.std.proofs.Common.{◌≡◌, ◌∙◌, sym, arith}
use Rattle.lgp_desk.proofs.FormLemmas.{trim-end, trim-more, trimmed-none}
use Rattle.lgp_desk.proofs.request.trimmed.Goals as goal
use Rattle.lgp_desk.proofs.request.trimmed.Goals.{then-loop-end-test+else-text-end-eq32, else-loop-end-test}

pub loop-end-preserved : goal.loop-end-preserved
loop-end-preserved c =
    let within = c.loop-end.invariant.0 in
    (omega (arith, within), trim-more _ _ c.loop-end-test.true c.loop-end.invariant.0 c.if-text-end-eq32.true c.loop-end.invariant.1)

pub returns : goal.returns
returns c = elim c.loop-end-test.branch [
  | then-loop-end-test+else-text-end-eq32 w ↦ trim-end _ _ w.loop-end-test.true c.loop-end.invariant.0 w.if-text-end-eq32.false c.loop-end.invariant.1
  | else-loop-end-test w ↦
      let test = w.loop-end-test.false in
      let none : c.loop-end.end ≡ 0 = omega (arith, test) in
      rw none (sym trimmed-none ∙ (rw none at c.loop-end.invariant.1))
]
