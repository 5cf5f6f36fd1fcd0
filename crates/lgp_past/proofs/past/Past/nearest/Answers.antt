use Rattle.std.proofs.Common.{arith, subst, sym}
use Rattle.std.specs.Prelude.{All}
use Rattle.lgp_past.specs.Past.{Past}
use Rattle.lgp_past.specs.PastInside.{IsCopied}
use Rattle.lgp_past.proofs.PastLemmas.{kept_first}
use Rattle.lgp_past.proofs.past.Past.nearest.Goals as goal

pub returns-in-Some-clause-copied : goal.returns-in-Some-clause-copied
returns-in-Some-clause-copied g c =
    let told = subst (λ (p : Past). All (IsCopied p.story.first p.story.events p.story.orders) c.self.inside.copies.items) c.self.view_is c.self.invariant.0.copied in
    let all = subst (λ copies. All (IsCopied c.args.self.now.story.first c.args.self.now.story.events c.args.self.now.story.orders) copies) (sym c.deref.ensures.value) told in
    c.in-Some.ensures.copied _ _ _ all

pub returns-in-None-clause-no_later : goal.returns-in-None-clause-no_later
returns-in-None-clause-no_later g c = let first = kept_first _ _ _ _ _ c.self.invariant.0 in omega (arith, first)
