use Rattle.std.proofs.Common.{◌+◌, ◌∙◌, sym, subst}
use Rattle.lgp_listing.proofs.ReadingSteps.{IsReadSo, read_none, in_form, read_more}
use Rattle.lgp_listing.proofs.reading.put_lines.Goals as goal

pub loop-line-init : goal.loop-line-init
loop-line-init g c =
    let text = c.args.text.now in
    record {
      can = tt;
      finite = tt;
      number = 1;
      least = 0;
      so_far = subst (λ lines. IsReadSo 1 0 c.args.drum.now lines text)
          (sym (c.into_iter-line-iterator.ensures.into_iter_gives ∙ c.lines_with_terminator-line-items.ensures.value))
          (read_none _ _ c.requires.blank c.requires.faultless);
    }

pub loop-line-preserved-in-Some-cell_in : goal.loop-line-preserved-in-Some-cell_in
loop-line-preserved-in-Some-cell_in g c =
    let before = c.loop-line.invariant in
    let text = c.args.text.now in
    let so_far = subst (λ lines. IsReadSo before.number before.least c.loop-line.drum lines text) c.in-Some.ensures.steps before.so_far in
    let cell = c.in-Some-cell_in.cell in
    record {
      can = tt;
      finite = tt;
      number = before.number + 1;
      least = cell.0 + 1;
      so_far = subst (λ words. IsReadSo (before.number + 1) (cell.0 + 1) words c.next.new.self text) (sym c.put.ensures.put)
          (read_more _ before.least c.loop-line.drum c.in-Some.line.now c.next.new.self text so_far cell (sym c.cell_in.ensures ∙ c.in-Some-cell_in.is));
    }

pub loop-line-preserved : goal.loop-line-preserved
loop-line-preserved g c =
    let before = c.loop-line.invariant in
    let text = c.args.text.now in
    let so_far = subst (λ lines. IsReadSo before.number before.least c.loop-line.drum lines text) c.in-Some.ensures.steps before.so_far in
    absurd (in_form before.number before.least c.loop-line.drum c.in-Some.line.now c.next.new.self text so_far (sym c.cell_in.ensures ∙ c.in_default.is))
