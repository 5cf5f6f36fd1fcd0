use Rattle.std.proofs.Common.{rules}
use Rattle.lgp_script.proofs.KeptLemmas.{with_line_longer, with_line_whole}
use Rattle.lgp_script.proofs.source_text.SourceText.push_line.Goals as goal

pub returns-then-is_longer-clause-ok : goal.returns-then-is_longer-clause-ok
returns-then-is_longer-clause-ok g c = search (rules, with_line_longer)

pub returns-clause-ok : goal.returns-clause-ok
returns-clause-ok g c = search (rules, with_line_whole)
