use Rattle.std.proofs.Common.{◌≡◌, ◌∙◌, ◌++◌, List, ℕ, [], ap}
use Rattle.std.proofs.lemmas.Result.{IfErr-weaker, on_ok_weaker}
use Rattle.lgp_stream.specs.declared.stream.StreamFault.TheVariants.{Memory}
use Rattle.lgp_stream.proofs.StreamLemmas.{HasAnswered-last, HasStopped-answered, HasStopped-memory}
use Rattle.lgp_stream.proofs.stream.Answering.answer.Goals as goal

pub returns-in_default-clause-stopped : goal.returns-in_default-clause-stopped
returns-in_default-clause-stopped g c = λ s w₀ lines text answered kept.
    HasStopped-answered g.L.Answers.language s Memory w₀ _ _ lines text _ _ answered (HasStopped-memory w₀ _ _ _ [] _ answered.written)

pub returns-clause-answered : goal.returns-clause-answered
returns-clause-answered g c = λ s w₀ lines text answered kept.
    let reply : c.deref.result.now ≡ g.L.Answers.language.reply c.args.self.now.answers text = c.deref.ensures.value ∙ (c.in-Ok.ensures.reply text kept ∙ ap (λ (front : List ℕ). front ++ g.L.Answers.language.reply c.args.self.now.answers text) c.new-reply.ensures.items) in
    on_ok_weaker c.deliver.result
    (λ written. HasAnswered-last g.L.Answers.language s w₀ _ _ lines text _ _ _ _ answered (c.in-Ok.ensures.after text kept) (rw reply at written))
    (c.deliver.ensures.written w₀ _ answered.written)

pub returns-clause-stopped : goal.returns-clause-stopped
returns-clause-stopped g c = λ s w₀ lines text answered kept.
    let reply : c.deref.result.now ≡ g.L.Answers.language.reply c.args.self.now.answers text = c.deref.ensures.value ∙ (c.in-Ok.ensures.reply text kept ∙ ap (λ (front : List ℕ). front ++ g.L.Answers.language.reply c.args.self.now.answers text) c.new-reply.ensures.items) in
    IfErr-weaker c.deliver.result _ _
    (λ fault stop. HasStopped-answered g.L.Answers.language s fault w₀ _ _ lines text _ _ answered (rw reply at stop))
    (c.deliver.ensures.stopped w₀ _ answered.written)
