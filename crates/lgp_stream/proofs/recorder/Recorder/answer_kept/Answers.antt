use Rattle.std.proofs.Common.{◌≡◌, ◌∙◌, ◌++◌, [], List, ℕ, ap, sym}
use Rattle.std.proofs.lemmas.List.{append-nil}
use Rattle.lgp_stream.specs.KeptLine.{Kept, kept_of}
use Rattle.lgp_stream.specs.Transcript.{Recorded, after_lines, ended, replies_text, stand_in}
use Rattle.lgp_stream.proofs.AnswerLemmas.{both_on_ok}
use Rattle.lgp_stream.proofs.StandIns.{kept-stand_in}
use Rattle.lgp_stream.proofs.recorder.Recorder.answer_kept.Goals as goal

kept_alike : (kept : Kept) (text : List ℕ) → kept ≡ kept_of text → kept ≡ kept_of (stand_in kept)
kept_alike kept text e = e ∙ (sym (kept-stand_in _) ∙ ap (λ (k : Kept). kept_of (stand_in k)) (sym e))

pub returns : goal.returns
unfolding replies_text after_lines
returns g c = λ text kept.
    let line = stand_in c.args.line.now in
    both_on_ok c.answer.result
    (c.answer.ensures.reply line (kept_alike c.args.line.now text kept))
    (c.answer.ensures.after line (kept_alike c.args.line.now text kept))
    (λ replied left. record {
      reply = replied ∙ (ap (λ (r : Recorded g.row.L.Denot). c.args.reply.now.items ++ g.L.Answers.language.reply r.state line) c.self.view_is
          ∙ ap (λ (more : List ℕ). c.args.reply.now.items ++ more) (sym (append-nil (g.L.Answers.language.reply c.args.self.now.state line))));
      after = ap (λ (s : g.row.L.Denot). record { state = s; transcript = c.push_stand_in.new.text.items }) left
          ∙ (ap (λ (t : List ℕ). record { state = g.L.Answers.language.after c.self.inside.answers line; transcript = t })
          (c.in_ok-push_stand_in.ensures ∙ ap (λ (more : List ℕ). c.self.inside.transcript.items ++ more) (sym (append-nil (ended _))))
          ∙ ap (λ (r : Recorded g.row.L.Denot). record { state = g.L.Answers.language.after r.state line; transcript = r.transcript ++ (ended line ++ []) }) c.self.view_is);
    })
