use Rattle.std.proofs.Common.{◌≡◌, ◌∙◌, ◌-◌, ℕ, ap, length, rules}
use Rattle.std.specs.Str.Lines.{lines}
use Rattle.lgp_moment.proofs.MomentLemmas.{way_cut, way_ended, way_on}
use Rattle.lgp_moment.proofs.moment.take_lines.Goals as goal

pub returns-then-part-clause-after : goal.returns-then-part-clause-after
returns-then-part-clause-after g c =
    let line = c.first_line-first.ensures.line in
    (way_cut c.args.session.now c.loop-rest.session c.take_line.new.session (lines c.args.transcript.now) c.args.order c.loop-rest.rest.now c.first_line-first.result.line c.first_line-first.result.rest.now c.loop-rest.left c.in_ok-part.part
    line (c.in_ok-part.ensures line.first line.is_kept) c.loop-rest.invariant c.if-part.true).0

pub returns-then-part-clause-lacking : goal.returns-then-part-clause-lacking
returns-then-part-clause-lacking g c =
    let line = c.first_line-first.ensures.line in
    (way_cut c.args.session.now c.loop-rest.session c.take_line.new.session (lines c.args.transcript.now) c.args.order c.loop-rest.rest.now c.first_line-first.result.line c.first_line-first.result.rest.now c.loop-rest.left c.in_ok-part.part
    line (c.in_ok-part.ensures line.first line.is_kept) c.loop-rest.invariant c.if-part.true).1

pub loop-rest-preserved : goal.loop-rest-preserved
loop-rest-preserved g c =
    let line = c.first_line-first.ensures.line in
    way_on c.args.session.now c.loop-rest.session c.take_line.new.session (lines c.args.transcript.now) c.args.order c.loop-rest.rest.now c.first_line-first.result.line c.first_line-first.result.rest.now c.loop-rest.left c.in_ok-part.part
    line (c.in_ok-part.ensures line.first line.is_kept) c.loop-rest.invariant c.lowered-left.result c.if-part.false
    (c.lowered-left.ensures ∙ ap (λ (n : ℕ). n - c.in_ok-part.part.orders) c.get.ensures.value)

pub returns-clause-after : goal.returns-clause-after
returns-clause-after g c =
    let none : length c.loop-rest.rest.now ≡ 0 = search rules in
    (way_ended c.args.session.now c.loop-rest.session (lines c.args.transcript.now) c.args.order c.loop-rest.rest.now c.loop-rest.left none c.loop-rest.invariant).0

pub returns-clause-lacking : goal.returns-clause-lacking
returns-clause-lacking g c =
    let none : length c.loop-rest.rest.now ≡ 0 = search rules in
    c.get-2.ensures.value
    ∙ (way_ended c.args.session.now c.loop-rest.session (lines c.args.transcript.now) c.args.order c.loop-rest.rest.now c.loop-rest.left none c.loop-rest.invariant).1
