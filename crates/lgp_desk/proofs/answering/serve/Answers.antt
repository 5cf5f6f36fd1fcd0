use Rattle.std.proofs.Common.{◌≡◌, Err, List, rules, ℕ, subst}
use Rattle.std.specs.Io.KnownBytes.{Appends}
use Rattle.lgp_stream.specs.Language.{StandsOf}
use Rattle.lgp_desk.proofs.FileLemmas.{by-both, by-same}
use Rattle.lgp_desk.proofs.ServedLemmas.{serving-begun, serving-broken, serving-more, serving-stopped}
use Rattle.lgp_desk.proofs.answering.serve.Goals as goal

pub returns-in_default-clause-broken : goal.returns-in_default-clause-broken
returns-in_default-clause-broken g c =
    by-both g.F.Files.answer c.args.files.now c.loop-step.files c.grant.new.files _ _ _ c.loop-step.invariant c.in_default.ensures.begun
    (λ cs ds so_far begun. serving-begun cs ds c.args.desk.now c.loop-step.desk (g.W.Sink.contents c.args.writer.now) (g.W.Sink.contents c.loop-step.writer) so_far begun)

pub returns-in_err-write_whole-in-Some-clause-broken : goal.returns-in_err-write_whole-in-Some-clause-broken
returns-in_err-write_whole-in-Some-clause-broken g c =
    let same : c.from_residual.result ≡ Err c.in_err-write_whole-in-Some.field-0.0 = search rules in
    rw same (by-both g.F.Files.answer c.args.files.now c.loop-step.files c.grant.new.files _ _ _ c.loop-step.invariant (rw c.in-Some.is at c.in-Ok.ensures.granted)
    (λ cs ds so_far granted. serving-broken cs ds c.args.desk.now c.loop-step.desk c.grant.new.desk (g.W.Sink.contents c.args.writer.now) (g.W.Sink.contents c.loop-step.writer) (g.W.Sink.contents c.write_whole.new.writer)
    c.in-Some.text.items c.in_err-write_whole-in-Some.field-0.0 (g.W.Sink.failed c.write_whole.new.writer) so_far granted
    (subst (λ (at : List ℕ). StandsOf at c.in_err-write_whole-in-Some.field-0.0 (g.W.Sink.contents c.loop-step.writer) (g.W.Sink.contents c.write_whole.new.writer)) c.deref.ensures.value c.in_err-write_whole-in-Some.ensures.stands)
    c.in_err-write_whole-in-Some.ensures.cause))

pub loop-step-preserved : goal.loop-step-preserved
loop-step-preserved g c =
    by-both g.F.Files.answer c.args.files.now c.loop-step.files c.grant.new.files _ _ _ c.loop-step.invariant (rw c.in-Some.is at c.in-Ok.ensures.granted)
    (λ cs ds so_far granted. serving-more cs ds c.args.desk.now c.loop-step.desk c.grant.new.desk (g.W.Sink.contents c.args.writer.now) (g.W.Sink.contents c.loop-step.writer) (g.W.Sink.contents c.write_whole.new.writer)
    c.in-Some.text.items so_far granted
    (subst (λ (at : List ℕ). Appends (g.W.Sink.contents c.loop-step.writer) (g.W.Sink.contents c.write_whole.new.writer) at) c.deref.ensures.value c.in_ok-write_whole-in-Some.ensures.all))

pub returns-clause-broken : goal.returns-clause-broken
returns-clause-broken g c =
    by-same g.F.Files.answer c.args.files.now c.loop-step.files _ _ c.loop-step.invariant
    (λ cs so_far. serving-stopped cs c.args.desk.now c.loop-step.desk (g.W.Sink.contents c.args.writer.now) (g.W.Sink.contents c.loop-step.writer) so_far)
