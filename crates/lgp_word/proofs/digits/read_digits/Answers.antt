use Rattle.std.proofs.Common.{◌∙◌, ap}
use Rattle.lgp_word.specs.Digits.{word_of_digits}
use Rattle.lgp_word.proofs.DigitLemmas.{word_of_digits-digits_of, IfSome-word_of_digits}
use Rattle.lgp_word.proofs.digits.read_digits.Goals as goal

pub returns-clause-reads_written : goal.returns-clause-reads_written
returns-clause-reads_written c = λ word is_word written. c.word_of_digits.ensures ∙ (ap word_of_digits written ∙ word_of_digits-digits_of _ is_word)

pub returns-clause-written_so : goal.returns-clause-written_so
returns-clause-written_so c = IfSome-word_of_digits c.word_of_digits.result c.args.text.now c.word_of_digits.ensures
