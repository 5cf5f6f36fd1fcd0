-- Each call inside asks for a block less.
use Rattle.lgp_base_tests.proofs.region.+at_once.Given as goal

abbrev pub decreases-at_once : goal.decreases-at_once
decreases-at_once l = l.most
