use Rattle.std.proofs.Common.{◌≡◌, ◌∙◌, ◌++◌, rules, sym, ap}
use Rattle.lgp_script.specs.Script.{script_language}
use Rattle.lgp_script.specs.LabState.{opening_state}
use Rattle.lgp_stream.specs.Transcript.{after_meaning}
use Rattle.lgp_stream.proofs.AfterLemmas.{after-none}
use Rattle.lgp_monitor.specs.Monitor.{meaning_of, reply_of}
use Rattle.lgp_monitor.specs.declared.entry.Entry.{Entry}
use Rattle.lgp_monitor.proofs.monitor.perform.Goals as goal

pub returns-in_ok-extend_from_slice-in-Transcript-clause-answer : goal.returns-in_ok-extend_from_slice-in-Transcript-clause-answer
returns-in_ok-extend_from_slice-in-Transcript-clause-answer g c = λ text kept.
    let replied : c.extend_from_slice.new.self.items ≡ c.args.reply.now.items ++ reply_of c.args.recorder.now c.args.entry c.args.line.now = search rules in
    record {
      reply = replied;
      after = sym (ap (λ (asked : Entry). after_meaning script_language opening_state c.args.recorder.now (meaning_of c.args.recorder.now asked c.args.line.now)) c.in-Transcript.is ∙ after-none _ _);
    }

pub returns-in_ok-push_help-in-Help-clause-answer : goal.returns-in_ok-push_help-in-Help-clause-answer
returns-in_ok-push_help-in-Help-clause-answer g c = λ text kept.
    let replied : c.push_help.new.text.items ≡ c.args.reply.now.items ++ reply_of c.args.recorder.now c.args.entry c.args.line.now = search rules in
    record {
      reply = replied;
      after = sym (ap (λ (asked : Entry). after_meaning script_language opening_state c.args.recorder.now (meaning_of c.args.recorder.now asked c.args.line.now)) c.in-Help.is ∙ after-none _ _);
    }

pub returns-in_ok-push_form_after-in-HelpOf-clause-answer : goal.returns-in_ok-push_form_after-in-HelpOf-clause-answer
returns-in_ok-push_form_after-in-HelpOf-clause-answer g c = λ text kept.
    let replied : c.push_form_after.new.text.items ≡ c.args.reply.now.items ++ reply_of c.args.recorder.now c.args.entry c.args.line.now = search rules in
    record {
      reply = replied;
      after = sym (ap (λ (asked : Entry). after_meaning script_language opening_state c.args.recorder.now (meaning_of c.args.recorder.now asked c.args.line.now)) c.in-HelpOf.is ∙ after-none _ _);
    }

pub returns-in_ok-push_answer-in-Asked-clause-answer : goal.returns-in_ok-push_answer-in-Asked-clause-answer
returns-in_ok-push_answer-in-Asked-clause-answer g c = λ text kept.
    let replied : c.push_answer.new.text.items ≡ c.args.reply.now.items ++ reply_of c.args.recorder.now c.args.entry c.args.line.now = search rules in
    record {
      reply = replied;
      after = sym (ap (λ (asked : Entry). after_meaning script_language opening_state c.args.recorder.now (meaning_of c.args.recorder.now asked c.args.line.now)) c.in-Asked.is ∙ after-none _ _);
    }

pub returns-in_ok-begin_anew-in-New-clause-answer : goal.returns-in_ok-begin_anew-in-New-clause-answer
returns-in_ok-begin_anew-in-New-clause-answer g c = λ text kept.
    let replied : c.begin_anew.new.reply.items ≡ c.args.reply.now.items ++ reply_of c.args.recorder.now c.args.entry c.args.line.now = search rules in
    record {
      reply = replied;
      after = c.in_ok-begin_anew-in-New.ensures.after ∙ sym (ap (λ (asked : Entry). after_meaning script_language opening_state c.args.recorder.now (meaning_of c.args.recorder.now asked c.args.line.now)) c.in-New.is ∙ after-none _ _);
    }
