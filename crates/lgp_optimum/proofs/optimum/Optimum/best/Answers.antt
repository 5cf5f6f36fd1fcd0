use Rattle.std.proofs.Common.{◌≡◌, ◌∙◌, ℕ, ap, arith, slice_index, subst}
use Rattle.lgp_word.specs.Address.{sector_of}
use Rattle.lgp_optimum.specs.OptimumKept.{IsLeast, Kept}
use Rattle.lgp_optimum.proofs.GainLemmas.{best_made}
use Rattle.lgp_optimum.proofs.optimum.Optimum.best.Goals as goal

pub returns-clause-best : goal.returns-clause-best
returns-clause-best g c =
    let own : c.sector.result ≡ sector_of c.args.word = c.sector.ensures.value in
    let took : c.from.result ≡ c.args.self.now.took = c.from.ensures ∙ ap (λ (k : Kept). k.took) c.self.view_is in
    best_made c.args.self.now c.at-times.result c.args.word c.least_sector-sector.result c.from.result c.from-2.result
    (subst (λ (n : ℕ). IsLeast (slice_index c.at-times.result) n c.least_sector-sector.result) own c.least_sector-sector.ensures)
    took c.from-2.ensures (c.at-times.ensures.exact (sector_of c.args.word) (omega arith)) c.at-times.ensures.all
