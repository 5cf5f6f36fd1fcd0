-- What is read from a text is printed as it.
use Rattle.std.proofs.Common.{◌∙◌, ap}
use Rattle.lgp_word.specs.Digits.{address_text}
use Rattle.lgp_word.proofs.TextLemmas.{IfSome-address_text, address_text-address_digits}
use Rattle.lgp_word.proofs.address.Address.parse.Goals as goal

pub returns-clause-reads_printed : goal.returns-clause-reads_printed
returns-clause-reads_printed c number is same = c.address_of.ensures ∙ ap address_text same ∙ address_text-address_digits _ is

pub returns-clause-printed_so : goal.returns-clause-printed_so
returns-clause-printed_so c = IfSome-address_text c.address_of.result c.args.text.now c.address_of.ensures
