use Rattle.lgp_fraction.proofs.DecimalLemmas.{power_of_ten-positive, power_of_ten-size}
use Rattle.lgp_fraction.proofs.fraction.power_of_ten.Goals as goal

pub returns-clause-positive : goal.returns-clause-positive
returns-clause-positive c = rw c.pow.ensures (power_of_ten-positive _)

pub returns-clause-size : goal.returns-clause-size
returns-clause-size c = rw c.pow.ensures (power_of_ten-size _ c.requires)
