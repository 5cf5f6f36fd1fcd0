use Rattle.std.proofs.Common.{sym, ap, arith, ◌∙◌}
use Rattle.lgp_exchange.specs.Examined.{words_after}
use Rattle.lgp_exchange.proofs.Faults.{words-none, words-some}
use Rattle.lgp_exchange.proofs.examined.put_lines.Goals as goal

pub loop-line-preserved-in-Some-cell_in : goal.loop-line-preserved-in-Some-cell_in
loop-line-preserved-in-Some-cell_in g c = record {
  can = tt;
  finite = tt;
  words = ap (λ words. words_after words c.next.new.self) c.put.ensures.put
      ∙ words-some c.loop-line.drum c.in-Some.line.now c.next.new.self c.in-Some-cell_in.cell (sym c.cell_in.ensures ∙ c.in-Some-cell_in.is)
      ∙ ap (words_after c.loop-line.drum) (sym c.in-Some.ensures.steps) ∙ c.loop-line.invariant.words;
}

pub loop-line-preserved : goal.loop-line-preserved
loop-line-preserved g c = record {
  can = tt;
  finite = tt;
  words = words-none c.loop-line.drum c.in-Some.line.now c.next.new.self (sym c.cell_in.ensures ∙ c.in_default.is)
      ∙ ap (words_after c.loop-line.drum) (sym c.in-Some.ensures.steps) ∙ c.loop-line.invariant.words;
}

pub returns : goal.returns
unfolding words_after
returns g c = grind arith
