use Rattle.std.proofs.Common.{◌≡◌, ◌++◌, take}
use Rattle.lgp_stream.specs.Transcript.{after_lines, bytes_of, replies_text}
use Rattle.lgp_stream.proofs.recorder.Recorder.answer_lines.Given as goal

abbrev pub invariant-loop-line : goal.invariant-loop-line
invariant-loop-line g l = record {
  after : l.self ≡ after_lines g.L.Answers.language l.fn.self (bytes_of (take l.line-index l.lines));
  reply : l.reply.items ≡ l.fn.reply.items ++ replies_text g.L.Answers.language l.fn.self (bytes_of (take l.line-index l.lines));
}
