use Rattle.std.proofs.Common.{rules, ◌∙◌, ap, replicate}
use Rattle.lgp_word.specs.Drum.{blank_words}
use Rattle.lgp_drum.specs.DrumInside.{by_address}
use Rattle.lgp_drum.proofs.Cells.{by_address-blank}
use Rattle.lgp_drum.proofs.drum.Drum.new.Goals as goal

pub returns : goal.returns
unfolding blank_words
returns g c = record {
  blank =
      ap by_address (c.in_ok-vec.ensures.items_if_clones_equal (λ y same. search rules) ∙ ap (replicate 4096) c.default.ensures) ∙ by_address-blank;
}
