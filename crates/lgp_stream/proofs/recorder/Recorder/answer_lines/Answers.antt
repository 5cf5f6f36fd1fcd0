use Rattle.std.proofs.Common.{◌∙◌, ◌++◌, List, ℕ, ap, sym}
use Rattle.std.proofs.lemmas.List.{append-nil}
use Rattle.lgp_stream.proofs.AfterLemmas.{after-more, after-none, replies-more, replies-none}
use Rattle.lgp_stream.proofs.recorder.Recorder.answer_lines.Goals as goal

pub loop-line-init : goal.loop-line-init
loop-line-init g c = record {
  after = sym (after-none _ _);
  reply = sym (ap (λ (more : List ℕ). c.args.reply.now.items ++ more) (replies-none _ _) ∙ append-nil c.args.reply.now.items);
}

pub loop-line-preserved : goal.loop-line-preserved
loop-line-preserved g c = record {
  after = after-more _ _ _ _ _ _ _ c.loop-line-test.true c.loop-line.invariant.after c.in_ok-answer_line.ensures.after;
  reply = replies-more _ _ _ _ _ _ _ _ _ c.loop-line-test.true
      c.loop-line.invariant.after c.loop-line.invariant.reply c.in_ok-answer_line.ensures.reply;
}
