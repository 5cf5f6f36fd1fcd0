use Rattle.std.proofs.Common.{◌-◌, arith, subst, sym}
use Rattle.std.proofs.lemmas.List.Elements.{All-get_or}
use Rattle.lgp_past.specs.PastInside.{IsCopied}
use Rattle.lgp_past.proofs.copied.latest.Goals as goal

pub returns-then-copy-order-clause-copied : goal.returns-then-copy-order-clause-copied
returns-then-copy-order-clause-copied g c start events later all =
    subst (IsCopied start events later) (sym c.index-copies-left.is)
    (All-get_or (IsCopied start events later) c.args.copies.now (c.loop-left.left - 1) _ (omega (arith, c.loop-left.invariant, c.loop-left-test.true)) all)
