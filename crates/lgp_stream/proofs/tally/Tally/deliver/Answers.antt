use Rattle.std.proofs.Common.{◌≡◌, ◌+◌, cond, length, min, rules}
use Rattle.lgp_stream.specs.Language.{count_limit, is_question}
use Rattle.lgp_stream.proofs.StreamLemmas.{HasStopped-last, HasWritten-last}
use Rattle.lgp_stream.proofs.tally.Tally.deliver.Goals as goal

pub returns-in-Ok-clause-written : goal.returns-in-Ok-clause-written
returns-in-Ok-clause-written g c =
    let questions : c.saturating_add-self.result ≡ min (c.args.self.now.questions + cond (is_question c.args.reply.now) 1 0) count_limit = search rules in
    let bytes : c.saturating_add-self-in-Ok.result ≡ min (c.args.self.now.bytes + length c.args.reply.now) count_limit = search rules in
    λ w₀ earlier written. HasWritten-last _ _ _ earlier c.args.reply.now c.args.self.now _ written c.in-Ok.ensures.all questions bytes

pub returns-in-Err-clause-stopped : goal.returns-in-Err-clause-stopped
returns-in-Err-clause-stopped g c =
    let counted : c.saturating_add.result ≡ min (c.args.self.now.bytes + c.in-Err.broken.taken) count_limit = search rules in
    λ w₀ earlier written. HasStopped-last _ _ _ earlier c.args.reply.now c.args.self.now c.in-Err.broken.taken _ written c.in-Err.ensures.part c.in-Err.ensures.within counted
