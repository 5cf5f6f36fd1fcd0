use Rattle.std.proofs.Common.{rules}
use Rattle.lgp_stream.proofs.AnswerLemmas.{on_ok_always}
use Rattle.lgp_monitor.proofs.RestoreLemmas.{not_put}
use Rattle.lgp_monitor.proofs.file_texts.restore_drum.Goals as goal

pub returns-then-not-is_at_rest : goal.returns-then-not-is_at_rest
returns-then-not-is_at_rest g c =
    search (rules, on_ok_always, not_put)
