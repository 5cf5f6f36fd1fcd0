use Rattle.lgp_listing.proofs.OneLine.{each_word}
use Rattle.lgp_listing.proofs.laws.each_word_assembles.Goals as goal

pub returns : goal.returns
returns c = each_word
