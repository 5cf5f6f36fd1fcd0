use Rattle.lgp_monitor.proofs.RestoreLemmas.{drum_is_dumped}
use Rattle.lgp_monitor.proofs.laws.restored_words_have_the_dump.Goals as goal

pub returns : goal.returns
returns g = λ words dump is_drum is. drum_is_dumped _ _ is_drum is
