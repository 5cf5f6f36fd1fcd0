use Rattle.std.proofs.Common.{◌≡◌, ◌∙◌, ◌<◌, ℕ, rules, arith, length-set, slice_index, slice_set, subst, sym}
use Rattle.std.proofs.lemmas.List.FromFn.{fill_by_all}
use Rattle.lgp_optimum.specs.Gains.{times_of}
use Rattle.lgp_optimum.specs.OptimumKept.{times_at}
use Rattle.lgp_optimum.proofs.TurnsLemmas.{filled_more}
use Rattle.lgp_optimum.proofs.optimum.Optimum.at.Goals as goal

pub loop-sector-preserved : goal.loop-sector-preserved
loop-sector-preserved g c = record {
  long = length-set c.loop-sector.times c.from-in-loop-sector.result c.saturating_sub.result ∙ c.loop-sector.invariant.long;
  reported = λ k below.
      subst (λ (n : ℕ). slice_index (slice_set c.loop-sector.times n c.saturating_sub.result) k ≡ times_at c.args.self.now c.args.word k) (sym c.from-in-loop-sector.ensures)
      (filled_more (times_at c.args.self.now c.args.word) c.loop-sector.times c.loop-sector.sector c.saturating_sub.result (omega arith) (search rules) c.loop-sector.invariant.reported k below);
}

pub returns-clause-all : goal.returns-clause-all
unfolding times_of
returns-clause-all g c =
    fill_by_all (times_at c.args.self.now c.args.word) c.loop-sector.times 64 0 c.loop-sector.invariant.long (λ (k : ℕ) (below : k < 64). c.loop-sector.invariant.reported k (omega arith))
