use Rattle.std.proofs.Common.{List}
use Rattle.lgp_assembler.specs.Fields.{LineFields}
use Rattle.lgp_assembler.specs.Places.{names_of}
use Rattle.lgp_assembler.specs.Image.{all_lines}
use Rattle.lgp_listing.specs.Listing.{listing_of}
use Rattle.lgp_listing.proofs.ListingSteps.{IsListedSo}
use Rattle.lgp_listing.proofs.listed.listing_from_image.Given as goal

abbrev pub invariant-loop-line : goal.invariant-loop-line
invariant-loop-line g l = record {
  can : (goal.iterator-loop-line g).can_next l.line-iterator;
  finite : (goal.iterator-loop-line g).is_finite l.line-iterator;
  earlier : List LineFields;
  so_far : IsListedSo (names_of (all_lines l.source)) earlier l.line-iterator l.cells.iter.rest.now l.text.items (listing_of l.source);
}
