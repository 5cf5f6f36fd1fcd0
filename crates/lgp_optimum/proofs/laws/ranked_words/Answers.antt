use Rattle.lgp_optimum.proofs.RankingLaw.{are_ranked}
use Rattle.lgp_optimum.proofs.laws.ranked_words.Goals as goal

pub returns : goal.returns
returns c = are_ranked
