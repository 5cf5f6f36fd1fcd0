use Rattle.std.proofs.Common.{◌≡◌, ◌∙◌, ◌++◌, Some, ap, rules, sym}
use Rattle.std.proofs.lemmas.Result.{on_ok_weaker}
use Rattle.lgp_script.specs.SourceCommands.{answer_in_source}
use Rattle.lgp_script.specs.LabState.{Answer, LabState}
use Rattle.lgp_script.proofs.KeptLemmas.{line_in_source, line_outside}
use Rattle.lgp_script.proofs.laboratory.LaboratoryAnswers.answer.Goals as goal

pub returns-in-Some-clause-reply : goal.returns-in-Some-clause-reply
returns-in-Some-clause-reply g c = λ text kept.
    let opened : c.args.self.now.opened ≡ Some c.in-Some.source = sym (ap (λ (s : LabState). s.opened) c.self.view_is) ∙ search rules in
    on_ok_weaker c.take_line.result
    (λ is. is.reply ∙ ap (λ (a : Answer). c.args.reply.now.items ++ a.reply)
    (ap (λ (s : LabState). answer_in_source s c.in-Some.source text) c.self.view_is ∙ sym (line_in_source _ _ _ opened)))
    (c.take_line.ensures text kept)

pub returns-in-Some-clause-after : goal.returns-in-Some-clause-after
returns-in-Some-clause-after g c = λ text kept.
    let opened : c.args.self.now.opened ≡ Some c.in-Some.source = sym (ap (λ (s : LabState). s.opened) c.self.view_is) ∙ search rules in
    on_ok_weaker c.take_line.result
    (λ is. is.after ∙ ap (λ (a : Answer). a.after)
    (ap (λ (s : LabState). answer_in_source s c.in-Some.source text) c.self.view_is ∙ sym (line_in_source _ _ _ opened)))
    (c.take_line.ensures text kept)

pub returns-in-None-clause-reply : goal.returns-in-None-clause-reply
returns-in-None-clause-reply g c = search (rules, line_outside)

pub returns-in-None-clause-after : goal.returns-in-None-clause-after
returns-in-None-clause-after g c = search (rules, line_outside)
