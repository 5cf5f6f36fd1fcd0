use Rattle.std.proofs.Common.{◌≡◌, [], ◌∷◌, map, sym, ap, subst, ◌∙◌}
use Rattle.lgp_source.specs.Seen.{line_seen}
use Rattle.lgp_source.specs.Source.{lines_of}
use Rattle.lgp_assembler.specs.Fields.{fields_of}
use Rattle.lgp_assembler.specs.Places.{names_of}
use Rattle.lgp_assembler.specs.Image.{line_cell, all_lines, image_of}
use Rattle.lgp_listing.specs.Listing.{listing_of}
use Rattle.lgp_assembler.proofs.LineCells.{cells_after}
use Rattle.lgp_listing.proofs.ListingSteps.{IsListedSo, taken_first, listed_none, no_cell, first_cell, listed_more, no_more, listed_all}
use Rattle.lgp_listing.proofs.listed.listing_from_image.Goals as goal
use Rattle.lgp_listing.proofs.listed.listing_from_image.Goals.{then-has_word, else-has_word}

pub loop-line-init : goal.loop-line-init
loop-line-init g c =
    let source = c.args.source.now in
    let names = names_of (all_lines source) in
    let cells = c.copied-cells.result.iter.rest.now in
    let is : c.copied-cells.result.iter.rest.now ≡ (image_of source).cells =
    ap (λ i. i.rest.now) c.copied-cells.ensures.source ∙ c.iter.ensures.rest ∙ c.cells.ensures.value ∙ ap (λ i. i.cells) c.requires.image in
    let lines = c.into_iter-line-iterator.ensures.into_iter_gives ∙ c.new-line-items.ensures.lines in
    record {
      can = tt;
      finite = tt;
      earlier = [];
      so_far = subst (λ ls. IsListedSo names [] ls cells c.new-text.result.items (listing_of source)) (sym lines)
          (subst (λ t. IsListedSo names [] (lines_of source) cells t (listing_of source)) (sym c.new-text.ensures.items)
          (listed_none _ _ c.requires.faultless is));
    }

pub loop-line-preserved : goal.loop-line-preserved
loop-line-preserved g c =
    let source = c.args.source.now in
    let names = names_of (all_lines source) in
    let before = c.loop-line.invariant in
    let line = line_seen c.in-Some.line in
    let fields = fields_of line in
    let cells = c.loop-line.cells.iter.rest.now in
    let so_far = subst (λ ls. IsListedSo names before.earlier ls cells c.loop-line.text.items (listing_of source)) c.in-Some.ensures.steps before.so_far in
    let after = cells_after names (fields ∷ before.earlier) (map fields_of c.next.new.self) in
    let step : (c.if-has_word.cell ≡ line_cell names before.earlier fields) × (c.if-has_word.cells.iter.rest.now ≡ after) = elim c.if-has_word.branch [
      | then-has_word w ↦ (
          let found = first_cell names before.earlier line c.next.new.self cells c.loop-line.text.items (listing_of source) so_far (sym c.has_word.ensures ∙ w.if-has_word.true) in
          let next = w.next-cell.ensures.steps in
          let taken = taken_first _ _ _ _ _ _ _ next.1 next.2 found.2 in
          (w.cell-is ∙ taken.0 ∙ sym found.1, ap (λ i. i.iter.rest.now) w.cells-is ∙ taken.1))
      | else-has_word w ↦ (
          let none = no_cell names before.earlier line c.next.new.self cells c.loop-line.text.items (listing_of source) so_far (sym c.has_word.ensures ∙ w.if-has_word.false) in
          (w.cell-is ∙ sym none, ap (λ i. i.iter.rest.now) w.cells-is ∙ no_more _ before.earlier line c.next.new.self cells c.loop-line.text.items (listing_of source) so_far none))
    ] in
    record {
      can = tt;
      finite = tt;
      earlier = fields ∷ before.earlier;
      so_far = subst (λ t. IsListedSo names (fields ∷ before.earlier) c.next.new.self c.if-has_word.cells.iter.rest.now t (listing_of source)) (sym c.in_ok-add_line.ensures)
          (listed_more _ _ line c.next.new.self cells c.loop-line.text.items (listing_of source) so_far c.if-has_word.cell c.if-has_word.cells.iter.rest.now step.0 step.1);
    }

pub returns : goal.returns
returns g c =
    let done = c.loop-line.invariant in
    listed_all _ _ _ _ _ _ done.so_far c.in-None.ensures.steps.0
