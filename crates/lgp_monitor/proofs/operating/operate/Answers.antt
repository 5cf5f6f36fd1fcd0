use Rattle.std.proofs.Common.{◌≡◌, ◌∙◌, ◌++◌, ◌≤◌, ◌-◌, ◌+◌, ℕ, List, suc, append_assoc, ap, arith, sym, true}
use Rattle.lgp_stream.specs.Transcript.{after_lines}
use Rattle.lgp_script.specs.LabState.{LabState}
use Rattle.lgp_script.specs.Reply.{Replied}
use Rattle.lgp_script.specs.Script.{script_language}
use Rattle.lgp_monitor.specs.Operating.{Operated, operated, starts_text, waits_for_typewriter}
use Rattle.lgp_monitor.specs.Reasons.{explained_text, is_refusal}
use Rattle.lgp_monitor.proofs.OperatingLemmas.{IsDone, operated_begun, operated_limit, operated_more, operated_rest}
use Rattle.lgp_monitor.proofs.operating.operate.Goals.{then-loop-starts-test+else-waits_for_typewriter, else-loop-starts-test}
use Rattle.lgp_monitor.proofs.operating.operate.Goals as goal

pub loop-starts-init : goal.loop-starts-init
loop-starts-init g c = record {
  few = omega arith;
  outside = c.in_ok-said.ensures.outside;
  so_far = operated_begun c.args.limit c.args.recorder.now c.run.new.recorder _ (c.args.limit - 0) (omega arith) c.in_ok-said.ensures;
}

pub loop-starts-preserved : goal.loop-starts-preserved
loop-starts-preserved g c =
    let within = c.loop-starts-test.true in
    let few : c.loop-starts.starts + 1 ≤ c.args.limit = omega (arith, within, c.get-most.ensures.value) in
    let left : c.args.limit - c.loop-starts.starts ≡ suc (c.args.limit - (c.loop-starts.starts + 1)) = omega (arith, few) in
    let waits : waits_for_typewriter c.loop-starts.recorder.state ≡ true =
    sym (ap waits_for_typewriter c.answers.ensures) ∙ (sym c.waits_for_typewriter.ensures ∙ c.if-waits_for_typewriter.true) in
    record {
      few = few;
      outside = c.in_ok-again.ensures.outside;
      so_far = operated_more c.args.limit c.loop-starts.recorder c.start_again.new.recorder c.loop-starts.said _
          (c.args.limit - c.loop-starts.starts) (c.args.limit - (c.loop-starts.starts + 1)) c.loop-starts.starts _ _
          left waits c.in_ok-again.ensures c.loop-starts.invariant.so_far;
    }

pub returns-clause-answer : goal.returns-clause-answer
returns-clause-answer g c =
    let whole : Operated = operated c.args.limit c.args.recorder.now.state in
    let before = c.args.reply.now.items in
    let so = c.loop-starts.invariant.so_far in
    let done : IsDone c.loop-starts.recorder c.loop-starts.said c.loop-starts.starts (after_lines script_language c.args.recorder.now whole.lines) whole =
    elim c.loop-starts-test.branch [
      | then-loop-starts-test+else-waits_for_typewriter w ↦
          operated_rest c.args.limit _ _ _ _ _ _
          (sym (ap waits_for_typewriter w.answers.ensures) ∙ (sym w.waits_for_typewriter.ensures ∙ w.if-waits_for_typewriter.false)) so
      | else-loop-starts-test w ↦
          let past = w.loop-starts-test.false in
          operated_limit c.args.limit _ _ _ _ _ _ (omega (arith, past, c.get-most.ensures.value)) so
    ] in
    record {
      reply = c.in_ok-push_starts.ensures
          ∙ (ap (λ (t : List ℕ). t ++ starts_text c.loop-starts.starts)
          (c.in_ok-push_explained.ensures
          ∙ (ap (λ (s : LabState). before ++ explained_text s c.loop-starts.said) c.answers-2.ensures
          ∙ ap (λ (r : Replied). before ++ explained_text r.after r.reply) done.reply))
          ∙ (ap (λ (n : ℕ). (before ++ explained_text whole.last.after whole.last.reply) ++ starts_text n) done.starts
          ∙ append_assoc before (explained_text whole.last.after whole.last.reply) (starts_text whole.starts)));
      after = done.lines;
    }

pub returns-clause-refused : goal.returns-clause-refused
returns-clause-refused g c =
    let whole : Operated = operated c.args.limit c.args.recorder.now.state in
    let so = c.loop-starts.invariant.so_far in
    let done : IsDone c.loop-starts.recorder c.loop-starts.said c.loop-starts.starts (after_lines script_language c.args.recorder.now whole.lines) whole =
    elim c.loop-starts-test.branch [
      | then-loop-starts-test+else-waits_for_typewriter w ↦
          operated_rest c.args.limit _ _ _ _ _ _
          (sym (ap waits_for_typewriter w.answers.ensures) ∙ (sym w.waits_for_typewriter.ensures ∙ w.if-waits_for_typewriter.false)) so
      | else-loop-starts-test w ↦
          let past = w.loop-starts-test.false in
          operated_limit c.args.limit _ _ _ _ _ _ (omega (arith, past, c.get-most.ensures.value)) so
    ] in
    c.is_refusal.ensures ∙ ap (λ (r : Replied). is_refusal r.reply) done.reply
