use Rattle.std.proofs.Common.{◌≡◌, [], None, Err, inl, refl, List, Option, arith, false, rules, sym, true, ℕ, ◌∙◌}
use Rattle.lgp_desk.specs.Desk.{wish_at}
use Rattle.lgp_stream.specs.LineReading.{left_of}
use Rattle.lgp_desk.specs.declared.wish.Wish.TheVariants.{Line, Nothing}
use Rattle.lgp_desk.proofs.ToldLemmas.{broken-lines}
use Rattle.lgp_desk.specs.Files.{FileCall}
use Rattle.lgp_desk.specs.ServedInside.{IsUnderWay}
use Rattle.lgp_desk.proofs.FileLemmas.{by-both, by-same}
use Rattle.lgp_desk.proofs.ServedLemmas.{closed-by, is-line, none-left, not-read, typed-by, way-begun, way-broken, way-closed, way-left, way-lined, way-served, way-still, way-stopped, way-typed}
use Rattle.lgp_desk.proofs.answering.hold.Goals as goal

pub returns-in_err-tell_firsts : goal.returns-in_err-tell_firsts
returns-in_err-tell_firsts g c =
    let same : c.from_residual.result ≡ Err c.in_err-tell_firsts.field-0.0 = search rules in
    rw same (record {
      held = tt;
      broken = by-same g.F.Files.answer c.args.files.now c.tell_firsts.new.files _ _ c.in_err-tell_firsts.ensures.broken
          (λ cs broken. broken-lines cs c.args.desk.now c.args.names.now (g.R.Feed.remaining c.args.reader.now) None (g.R.Feed.remaining c.args.reader.now) c.in_err-tell_firsts.field-0.0 (g.W.Sink.contents c.args.writer.now) (g.W.Sink.contents c.tell_firsts.new.writer)
          (not-read c.in_err-tell_firsts.field-0.0 _ c.in_err-tell_firsts.ensures.cause) broken);
      cause = grind arith;
    })

pub loop-step-init : goal.loop-step-init
loop-step-init g c =
    let firsts = c.in_ok-tell_firsts.ensures.told in
    let way = way-begun firsts.0 c.args.desk.now c.args.names.now (g.R.Feed.remaining c.args.reader.now) (g.W.Sink.contents c.args.writer.now) (g.W.Sink.contents c.tell_firsts.new.writer) c.tell_firsts.new.desk c.new-lines.result.unread
    c.new-lines.ensures firsts.2 in
    (way.0, (firsts.0, firsts.1, way.1), way.2, way.3)

pub returns-in-Nothing-clause-held : goal.returns-in-Nothing-clause-held
returns-in-Nothing-clause-held g c =
    by-same g.F.Files.answer c.args.files.now c.loop-step.files _ _ c.loop-step.invariant.1
    (λ cs way. way-left cs c.args.desk.now c.args.names.now c.loop-step.invariant.0 (g.R.Feed.remaining c.args.reader.now) (left_of c.loop-step.lines.unread (g.R.Feed.remaining c.loop-step.reader)) (g.W.Sink.contents c.args.writer.now) (g.W.Sink.contents c.loop-step.writer)
    c.loop-step.desk c.has_refused.result way (sym c.wish.ensures ∙ c.in-Nothing.is) c.has_refused.ensures)

pub returns-in_err-tell_typed : goal.returns-in_err-tell_typed
returns-in_err-tell_typed g c =
    let other : wish_at c.loop-step.desk ≡ Nothing → ⊥ = λ is. c.in_default.not-Nothing (c.wish.ensures ∙ is) in
    let none : c.loop-step.invariant.0 ≡ [] = none-left c.loop-step.invariant.0 c.loop-step.desk c.loop-step.invariant.2 other in
    let lined = λ (cs : List FileCall) (way : IsUnderWay cs c.args.desk.now c.args.names.now c.loop-step.invariant.0 (g.R.Feed.remaining c.args.reader.now) (left_of c.loop-step.lines.unread (g.R.Feed.remaining c.loop-step.reader)) c.loop-step.desk (g.W.Sink.contents c.args.writer.now) (g.W.Sink.contents c.loop-step.writer)). way-lined cs c.args.desk.now c.args.names.now c.loop-step.invariant.0 (g.R.Feed.remaining c.args.reader.now) (left_of c.loop-step.lines.unread (g.R.Feed.remaining c.loop-step.reader)) (g.W.Sink.contents c.args.writer.now) (g.W.Sink.contents c.loop-step.writer) c.loop-step.desk none way in
    let same : c.from_residual-in_err-tell_typed.result ≡ Err c.in_err-tell_typed.field-0.0 = search rules in
    rw same (record {
      held = tt;
      broken = by-same g.F.Files.answer c.args.files.now c.loop-step.files _ _ c.loop-step.invariant.1
          (λ cs way. way-broken cs c.args.desk.now c.args.names.now [] (g.R.Feed.remaining c.args.reader.now) (left_of c.loop-step.lines.unread (g.R.Feed.remaining c.loop-step.reader)) (g.R.Feed.remaining c.tell_typed.new.reader) c.in_err-tell_typed.field-0.0 (g.W.Sink.contents c.args.writer.now)
          (g.W.Sink.contents c.loop-step.writer) (g.W.Sink.contents c.tell_typed.new.writer) c.loop-step.desk (lined cs way)
          (c.in_err-tell_typed.ensures.broken (is-line c.loop-step.desk c.loop-step.invariant.3 other)));
      cause = c.in_err-tell_typed.ensures.cause;
    })

pub returns-then-not-branch : goal.returns-then-not-branch
returns-then-not-branch g c =
    let other : wish_at c.loop-step.desk ≡ Nothing → ⊥ = λ is. c.in_default.not-Nothing (c.wish.ensures ∙ is) in
    let none : c.loop-step.invariant.0 ≡ [] = none-left c.loop-step.invariant.0 c.loop-step.desk c.loop-step.invariant.2 other in
    let lined = λ (cs : List FileCall) (way : IsUnderWay cs c.args.desk.now c.args.names.now c.loop-step.invariant.0 (g.R.Feed.remaining c.args.reader.now) (left_of c.loop-step.lines.unread (g.R.Feed.remaining c.loop-step.reader)) c.loop-step.desk (g.W.Sink.contents c.args.writer.now) (g.W.Sink.contents c.loop-step.writer)). way-lined cs c.args.desk.now c.args.names.now c.loop-step.invariant.0 (g.R.Feed.remaining c.args.reader.now) (left_of c.loop-step.lines.unread (g.R.Feed.remaining c.loop-step.reader)) (g.W.Sink.contents c.args.writer.now) (g.W.Sink.contents c.loop-step.writer) c.loop-step.desk none way in
    let wish : wish_at c.loop-step.desk ≡ Line = is-line c.loop-step.desk c.loop-step.invariant.3 other in
    let closed : c.in_ok-tell_typed.field-0 ≡ false = cc in
    record {
      held = by-same g.F.Files.answer c.args.files.now c.loop-step.files _ _ c.loop-step.invariant.1
          (λ cs way. way-closed cs c.args.desk.now c.args.names.now (g.R.Feed.remaining c.args.reader.now) (left_of c.loop-step.lines.unread (g.R.Feed.remaining c.loop-step.reader)) (g.W.Sink.contents c.args.writer.now) (g.W.Sink.contents c.loop-step.writer)
          (g.W.Sink.contents c.tell_typed.new.writer) c.loop-step.desk c.tell_typed.new.desk c.has_refused-then-not-branch.result (lined cs way) wish
          (closed-by c.in_ok-tell_typed.field-0 c.loop-step.desk c.tell_typed.new.desk (left_of c.loop-step.lines.unread (g.R.Feed.remaining c.loop-step.reader)) (left_of c.tell_typed.new.lines.unread (g.R.Feed.remaining c.tell_typed.new.reader))
          (g.W.Sink.contents c.loop-step.writer) (g.W.Sink.contents c.tell_typed.new.writer) closed (c.in_ok-tell_typed.ensures.typed wish))
          c.has_refused-then-not-branch.ensures);
      broken = tt;
      cause = tt;
    }

pub returns-in_err-serve : goal.returns-in_err-serve
returns-in_err-serve g c =
    let other : wish_at c.loop-step.desk ≡ Nothing → ⊥ = λ is. c.in_default.not-Nothing (c.wish.ensures ∙ is) in
    let none : c.loop-step.invariant.0 ≡ [] = none-left c.loop-step.invariant.0 c.loop-step.desk c.loop-step.invariant.2 other in
    let lined = λ (cs : List FileCall) (way : IsUnderWay cs c.args.desk.now c.args.names.now c.loop-step.invariant.0 (g.R.Feed.remaining c.args.reader.now) (left_of c.loop-step.lines.unread (g.R.Feed.remaining c.loop-step.reader)) c.loop-step.desk (g.W.Sink.contents c.args.writer.now) (g.W.Sink.contents c.loop-step.writer)). way-lined cs c.args.desk.now c.args.names.now c.loop-step.invariant.0 (g.R.Feed.remaining c.args.reader.now) (left_of c.loop-step.lines.unread (g.R.Feed.remaining c.loop-step.reader)) (g.W.Sink.contents c.args.writer.now) (g.W.Sink.contents c.loop-step.writer) c.loop-step.desk none way in
    let wish : wish_at c.loop-step.desk ≡ Line = is-line c.loop-step.desk c.loop-step.invariant.3 other in
    let some : c.in_ok-tell_typed.field-0 ≡ true = cc in
    let left : Option (List ℕ) = left_of c.loop-step.lines.unread (g.R.Feed.remaining c.loop-step.reader) in
    let next : Option (List ℕ) = left_of c.tell_typed.new.lines.unread (g.R.Feed.remaining c.tell_typed.new.reader) in
    let typed = typed-by c.in_ok-tell_typed.field-0 c.loop-step.desk c.tell_typed.new.desk left next (g.W.Sink.contents c.loop-step.writer) (g.W.Sink.contents c.tell_typed.new.writer) some (c.in_ok-tell_typed.ensures.typed wish) in
    let typed-way = λ (cs : List FileCall) (way : IsUnderWay cs c.args.desk.now c.args.names.now c.loop-step.invariant.0 (g.R.Feed.remaining c.args.reader.now) left c.loop-step.desk (g.W.Sink.contents c.args.writer.now) (g.W.Sink.contents c.loop-step.writer)). way-typed cs c.args.desk.now c.args.names.now (g.R.Feed.remaining c.args.reader.now) left next (g.W.Sink.contents c.args.writer.now) (g.W.Sink.contents c.loop-step.writer) (g.W.Sink.contents c.tell_typed.new.writer) c.loop-step.desk
    c.tell_typed.new.desk (lined cs way) typed in
    let same : c.from_residual-in_err-serve.result ≡ Err c.in_err-serve.field-0.0 = search rules in
    rw same (record {
      held = tt;
      broken = by-both g.F.Files.answer c.args.files.now c.loop-step.files c.serve.new.files _ _ _ c.loop-step.invariant.1 c.in_err-serve.ensures.broken
          (λ cs ds way broken. way-stopped cs ds c.args.desk.now c.args.names.now [] (g.R.Feed.remaining c.args.reader.now) next (g.R.Feed.remaining c.tell_typed.new.reader) c.in_err-serve.field-0.0 (g.W.Sink.contents c.args.writer.now) (g.W.Sink.contents c.tell_typed.new.writer) (g.W.Sink.contents c.serve.new.writer)
          c.tell_typed.new.desk (typed-way cs way) (broken-lines ds c.tell_typed.new.desk [] next None (g.R.Feed.remaining c.tell_typed.new.reader) c.in_err-serve.field-0.0 (g.W.Sink.contents c.tell_typed.new.writer) (g.W.Sink.contents c.serve.new.writer)
          (not-read c.in_err-serve.field-0.0 _ c.in_err-serve.ensures.cause) broken));
      cause = grind arith;
    })

pub loop-step-preserved : goal.loop-step-preserved
loop-step-preserved g c =
    let other : wish_at c.loop-step.desk ≡ Nothing → ⊥ = λ is. c.in_default.not-Nothing (c.wish.ensures ∙ is) in
    let none : c.loop-step.invariant.0 ≡ [] = none-left c.loop-step.invariant.0 c.loop-step.desk c.loop-step.invariant.2 other in
    let lined = λ (cs : List FileCall) (way : IsUnderWay cs c.args.desk.now c.args.names.now c.loop-step.invariant.0 (g.R.Feed.remaining c.args.reader.now) (left_of c.loop-step.lines.unread (g.R.Feed.remaining c.loop-step.reader)) c.loop-step.desk (g.W.Sink.contents c.args.writer.now) (g.W.Sink.contents c.loop-step.writer)). way-lined cs c.args.desk.now c.args.names.now c.loop-step.invariant.0 (g.R.Feed.remaining c.args.reader.now) (left_of c.loop-step.lines.unread (g.R.Feed.remaining c.loop-step.reader)) (g.W.Sink.contents c.args.writer.now) (g.W.Sink.contents c.loop-step.writer) c.loop-step.desk none way in
    let wish : wish_at c.loop-step.desk ≡ Line = is-line c.loop-step.desk c.loop-step.invariant.3 other in
    let some : c.in_ok-tell_typed.field-0 ≡ true = cc in
    let left : Option (List ℕ) = left_of c.loop-step.lines.unread (g.R.Feed.remaining c.loop-step.reader) in
    let next : Option (List ℕ) = left_of c.tell_typed.new.lines.unread (g.R.Feed.remaining c.tell_typed.new.reader) in
    let typed = typed-by c.in_ok-tell_typed.field-0 c.loop-step.desk c.tell_typed.new.desk left next (g.W.Sink.contents c.loop-step.writer) (g.W.Sink.contents c.tell_typed.new.writer) some (c.in_ok-tell_typed.ensures.typed wish) in
    let typed-way = λ (cs : List FileCall) (way : IsUnderWay cs c.args.desk.now c.args.names.now c.loop-step.invariant.0 (g.R.Feed.remaining c.args.reader.now) left c.loop-step.desk (g.W.Sink.contents c.args.writer.now) (g.W.Sink.contents c.loop-step.writer)). way-typed cs c.args.desk.now c.args.names.now (g.R.Feed.remaining c.args.reader.now) left next (g.W.Sink.contents c.args.writer.now) (g.W.Sink.contents c.loop-step.writer) (g.W.Sink.contents c.tell_typed.new.writer) c.loop-step.desk
    c.tell_typed.new.desk (lined cs way) typed in (
      [],
      by-both g.F.Files.answer c.args.files.now c.loop-step.files c.serve.new.files _ _ _ c.loop-step.invariant.1 c.in_ok-serve.ensures.served
          (λ cs ds way served. way-served cs ds c.args.desk.now c.args.names.now (g.R.Feed.remaining c.args.reader.now) next (g.W.Sink.contents c.args.writer.now) (g.W.Sink.contents c.tell_typed.new.writer) (g.W.Sink.contents c.serve.new.writer) c.tell_typed.new.desk c.serve.new.desk (typed-way cs way)
          served),
      inl refl,
      c.in_ok-serve.ensures.served.2.1,
    )

pub returns-clause-broken : goal.returns-clause-broken
returns-clause-broken g c = by-same g.F.Files.answer c.args.files.now c.loop-step.files _ _ c.loop-step.invariant.1 (λ cs way. way-still cs _ _ _ _ _ _ _ _ _ way)
