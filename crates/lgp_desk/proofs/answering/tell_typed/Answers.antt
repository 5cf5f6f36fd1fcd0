use Rattle.std.proofs.Common.{◌≡◌, Err, arith, rules, List, None, Option, Some, ℕ, refl, ◌∙◌}
use Rattle.lgp_desk.specs.Desk.{Seat, Typed, closing_text, said_to}
use Rattle.lgp_desk.specs.Sessions.{prompt_of}
use Rattle.lgp_stream.specs.declared.stream.StreamFault.{StreamFault}
use Rattle.lgp_stream.specs.LineReading.{HasLine, left_of}
use Rattle.lgp_desk.proofs.ServedLemmas.{closed-at, end-broken, line-broken, on-ok, prompt-broken, read-broken, typed-to}
use Rattle.lgp_desk.proofs.answering.tell_typed.Goals as goal

pub returns-in_err-deliver : goal.returns-in_err-deliver
returns-in_err-deliver g c =
    let desk : Seat = c.args.desk.now in
    let same : c.from_residual.result ≡ Err c.in_err-deliver.field-0.0 = search rules in
    rw same (record {
      typed = λ wish. tt;
      broken = λ wish. prompt-broken desk _ _ _ _ c.in_err-deliver.field-0.0 (g.W.Sink.failed c.deliver.new.writer) (c.in_err-deliver.ensures.stands (prompt_of desk) c.prompt.ensures) c.in_err-deliver.ensures.cause;
      cause = grind arith;
    })

pub returns-in_default-clause-broken : goal.returns-in_default-clause-broken
returns-in_default-clause-broken g c = λ wish.
    let desk : Seat = c.args.desk.now in
    read-broken desk _ _ _ _ (c.in_ok-deliver.ensures.whole (prompt_of desk) c.prompt.ensures) (c.in_default.ensures.broken refl)

pub returns-in_err-deliver-2 : goal.returns-in_err-deliver-2
returns-in_err-deliver-2 g c =
    let desk : Seat = c.args.desk.now in
    let fault : StreamFault = c.in_err-deliver-2.field-0.0 in
    let left₀ : Option (List ℕ) = left_of c.args.lines.now.unread (g.R.Feed.remaining c.args.reader.now) in
    let left : Option (List ℕ) = left_of c.next_line.new.self.unread (g.R.Feed.remaining c.next_line.new.reader) in
    let has : HasLine left₀ left (Some c.next_line.new.self.line) = c.in-Ok.ensures.line c.if-is_typed.true in
    let same : c.from_residual-in_err-deliver-2.result ≡ Err fault = search rules in
    rw same (record {
      typed = λ wish. tt;
      broken = λ wish. line-broken desk left₀ left _ _ _ _ c.next_line.new.self.line fault (g.W.Sink.failed c.deliver-then-is_typed.new.writer) has wish
          (c.in_ok-deliver.ensures.whole (prompt_of desk) c.prompt.ensures)
          (c.in_err-deliver-2.ensures.stands (said_to desk (Typed has.0)).text (c.typed.ensures.text has.0 (c.line.ensures ∙ has.1))) c.in_err-deliver-2.ensures.cause;
      cause = grind arith;
    })

pub returns-in_err-deliver-3 : goal.returns-in_err-deliver-3
returns-in_err-deliver-3 g c =
    let desk : Seat = c.args.desk.now in
    let fault : StreamFault = c.in_err-deliver-3.field-0.0 in
    let same : c.from_residual-in_err-deliver-3.result ≡ Err fault = search rules in
    rw same (record {
      typed = λ wish. tt;
      broken = λ wish. end-broken desk _ _ _ _ _ fault (g.W.Sink.failed c.deliver-else-is_typed.new.writer) (c.in_ok-deliver.ensures.whole (prompt_of desk) c.prompt.ensures)
          (c.in_err-deliver-3.ensures.stands (closing_text desk) c.close.ensures.text) c.in_err-deliver-3.ensures.cause;
      cause = grind arith;
    })

pub returns-in_ok-deliver-2-clause-typed : goal.returns-in_ok-deliver-2-clause-typed
returns-in_ok-deliver-2-clause-typed g c = λ wish.
    let desk : Seat = c.args.desk.now in
    let left₀ : Option (List ℕ) = left_of c.args.lines.now.unread (g.R.Feed.remaining c.args.reader.now) in
    let left : Option (List ℕ) = left_of c.next_line.new.self.unread (g.R.Feed.remaining c.next_line.new.reader) in
    let has : HasLine left₀ left (Some c.next_line.new.self.line) = c.in-Ok.ensures.line c.if-is_typed.true in
    let text : List ℕ = (said_to desk (Typed has.0)).text in
    rw c.if-is_typed.true (typed-to desk c.typed.new.self left₀ left _ _ _ c.next_line.new.self.line (prompt_of desk) text has wish refl refl
    (on-ok _ c.typed.result c.in_ok-deliver-2.ensures.made (c.typed.ensures.after has.0 (c.line.ensures ∙ has.1)))
    (c.in_ok-deliver.ensures.whole (prompt_of desk) c.prompt.ensures) (c.in_ok-deliver-2.ensures.whole text (c.typed.ensures.text has.0 (c.line.ensures ∙ has.1))))

pub returns-in_ok-deliver-3-clause-typed : goal.returns-in_ok-deliver-3-clause-typed
returns-in_ok-deliver-3-clause-typed g c = λ wish.
    let desk : Seat = c.args.desk.now in
    let left₀ : Option (List ℕ) = left_of c.args.lines.now.unread (g.R.Feed.remaining c.args.reader.now) in
    let left : Option (List ℕ) = left_of c.next_line.new.self.unread (g.R.Feed.remaining c.next_line.new.reader) in
    let none : HasLine left₀ left None = c.in-Ok.ensures.end c.if-is_typed.false in
    rw c.if-is_typed.false (closed-at desk c.close.new.self left₀ left _ _ _ (prompt_of desk) (closing_text desk) none refl refl
    (on-ok _ c.close.result c.in_ok-deliver-3.ensures.made c.close.ensures.refused)
    (c.in_ok-deliver.ensures.whole (prompt_of desk) c.prompt.ensures) (c.in_ok-deliver-3.ensures.whole (closing_text desk) c.close.ensures.text))
