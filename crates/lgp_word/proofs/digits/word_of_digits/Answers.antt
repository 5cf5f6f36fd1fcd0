use Rattle.std.proofs.Common.{rules}
use Rattle.lgp_word.specs.Digits.{word_of_digits}
use Rattle.lgp_word.proofs.digits.word_of_digits.Goals as goal

pub returns-in-Some : goal.returns-in-Some
unfolding word_of_digits
returns-in-Some c = search rules
