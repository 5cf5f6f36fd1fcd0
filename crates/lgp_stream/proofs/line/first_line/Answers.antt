use Rattle.std.proofs.Common.{◌+◌, arith}
use Rattle.std.proofs.lemmas.List.{take_rest}
use Rattle.lgp_stream.proofs.FirstLines.{first-feed, first-last, within-more, within-none}
use Rattle.lgp_stream.proofs.line.first_line.Goals as goal

pub loop-place-init : goal.loop-place-init
loop-place-init c = within-none _ _ c.new-open.ensures

pub returns-then-byte-eq10-clause-line : goal.returns-then-byte-eq10-clause-line
returns-then-byte-eq10-clause-line c =
    rw (take_rest c.args.text.now (c.loop-place.place + 1)) (first-feed _ _ _ _ c.loop-place-test.true c.loop-place.invariant c.if-byte-eq10.true c.complete.ensures)

pub loop-place-preserved : goal.loop-place-preserved
loop-place-preserved c = within-more _ _ _ _ c.loop-place-test.true c.loop-place.invariant c.if-byte-eq10.false c.push.ensures

pub returns-clause-line : goal.returns-clause-line
returns-clause-line c = first-last _ _ _ _ c.requires (omega arith) c.loop-place.invariant c.last.ensures
