use Rattle.std.proofs.Common.{rules}
use Rattle.lgp_stream.proofs.FrontLemmas.{front_whole, longer_is_no_word}
use Rattle.lgp_stream.proofs.line.LineBytes.is_word.Goals as goal

pub returns-then-not-self : goal.returns-then-not-self
returns-then-not-self c = search (rules, front_whole)

pub returns-else-not-self : goal.returns-else-not-self
returns-else-not-self c = search (rules, longer_is_no_word)
