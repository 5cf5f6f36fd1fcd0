use Rattle.std.proofs.Common.{◌≡◌, Err, List, ℕ, refl, rules, sym, ◌∙◌}
use Rattle.lgp_desk.specs.Desk.{First, said_to}
use Rattle.lgp_desk.proofs.FileLemmas.{by-both, by-none, by-same}
use Rattle.lgp_desk.proofs.ServedLemmas.{first-broken, firsts-all, firsts-broken, firsts-left, firsts-more, firsts-none, on-ok}
use Rattle.lgp_desk.proofs.answering.tell_firsts.Goals as goal

pub loop-name-init : goal.loop-name-init
loop-name-init g c = by-none g.F.Files.answer c.args.files.now _ (firsts-none _ _ _ c.requires)

pub returns-in_err-deliver : goal.returns-in_err-deliver
returns-in_err-deliver g c =
    let name : List ℕ = c.bytes_of.result.now in
    let same : c.from_residual.result ≡ Err c.in_err-deliver.field-0.0 = search rules in
    rw same (record {
      told = tt;
      broken = by-same g.F.Files.answer c.args.files.now c.loop-name.files _ _ c.loop-name.invariant
          (λ cs so_far. first-broken cs c.args.desk.now c.loop-name.desk c.args.names.now c.loop-name.name-index c.name-item.result name c.in_err-deliver.field-0.0 (g.W.Sink.failed c.deliver.new.writer) (g.W.Sink.contents c.args.writer.now)
          (g.W.Sink.contents c.loop-name.writer) (g.W.Sink.contents c.deliver.new.writer) c.loop-name-test.true (c.bytes_of.ensures ∙ c.name-item.is) so_far (λ is. c.in_default.not-Nothing (c.wish.ensures ∙ is))
          (c.in_err-deliver.ensures.stands (said_to c.loop-name.desk (First name)).text c.first.ensures.text) c.in_err-deliver.ensures.cause);
      cause = c.in_err-deliver.ensures.cause;
    })

pub returns-in_err-serve : goal.returns-in_err-serve
returns-in_err-serve g c =
    let name : List ℕ = c.bytes_of.result.now in
    let same : c.from_residual-in_err-serve.result ≡ Err c.in_err-serve.field-0.0 = search rules in
    rw same (record {
      told = tt;
      broken = by-both g.F.Files.answer c.args.files.now c.loop-name.files c.serve.new.files _ _ _ c.loop-name.invariant c.in_err-serve.ensures.broken
          (λ cs ds so_far broken. firsts-broken cs ds c.args.desk.now c.loop-name.desk c.first.new.self c.args.names.now c.loop-name.name-index c.name-item.result name (said_to c.loop-name.desk (First name)).text c.in_err-serve.field-0.0
          (g.W.Sink.contents c.args.writer.now) (g.W.Sink.contents c.loop-name.writer) (g.W.Sink.contents c.deliver.new.writer) (g.W.Sink.contents c.serve.new.writer) c.loop-name-test.true (c.bytes_of.ensures ∙ c.name-item.is)
          so_far (λ is. c.in_default.not-Nothing (c.wish.ensures ∙ is)) refl
          (on-ok _ c.first.result c.in_ok-deliver.ensures.made c.first.ensures.after) (c.in_ok-deliver.ensures.whole (said_to c.loop-name.desk (First name)).text c.first.ensures.text) broken);
      cause = c.in_err-serve.ensures.cause;
    })

pub loop-name-preserved : goal.loop-name-preserved
loop-name-preserved g c =
    let name : List ℕ = c.bytes_of.result.now in
    by-both g.F.Files.answer c.args.files.now c.loop-name.files c.serve.new.files _ _ _ c.loop-name.invariant c.in_ok-serve.ensures.served
    (λ cs ds so_far served. firsts-more cs ds c.args.desk.now c.loop-name.desk c.first.new.self c.serve.new.desk c.args.names.now c.loop-name.name-index c.name-item.result name (said_to c.loop-name.desk (First name)).text (g.W.Sink.contents c.args.writer.now)
    (g.W.Sink.contents c.loop-name.writer) (g.W.Sink.contents c.deliver.new.writer) (g.W.Sink.contents c.serve.new.writer) c.loop-name-test.true (c.bytes_of.ensures ∙ c.name-item.is) so_far
    (λ is. c.in_default.not-Nothing (c.wish.ensures ∙ is)) refl (on-ok _ c.first.result c.in_ok-deliver.ensures.made c.first.ensures.after)
    (c.in_ok-deliver.ensures.whole (said_to c.loop-name.desk (First name)).text c.first.ensures.text) served)

pub returns-in-Nothing-clause-told : goal.returns-in-Nothing-clause-told
returns-in-Nothing-clause-told g c = by-same g.F.Files.answer c.args.files.now c.loop-name.files _ _ c.loop-name.invariant (λ cs so_far. firsts-left cs _ _ _ _ _ _ so_far (sym c.wish.ensures ∙ c.in-Nothing.is))

pub returns-clause-told : goal.returns-clause-told
returns-clause-told g c = by-same g.F.Files.answer c.args.files.now c.loop-name.files _ _ c.loop-name.invariant (λ cs so_far. firsts-all cs _ _ _ _ _ _ c.loop-name-test.false so_far)
