use Rattle.std.proofs.Common.{◌≡◌, ◌∙◌, ◌++◌, Some, ap, rules, sym}
use Rattle.std.proofs.lemmas.Result.{on_ok_weaker}
use Rattle.lgp_script.specs.SourceCommands.{answer_to_end}
use Rattle.lgp_script.specs.LabState.{Answer, LabState}
use Rattle.lgp_script.proofs.KeptLemmas.{closed_none, closed_some}
use Rattle.lgp_script.proofs.laboratory.LaboratoryAnswers.close.Goals as goal

pub returns-in-Some : goal.returns-in-Some
returns-in-Some g c =
    let opened : c.args.self.now.opened ≡ Some c.in-Some.source = sym (ap (λ (s : LabState). s.opened) c.self.view_is) ∙ search rules in
    record {
      reply = on_ok_weaker c.close_source.result
          (λ is. is.reply ∙ ap (λ (a : Answer). c.args.reply.now.items ++ a.reply)
          (ap (λ (s : LabState). answer_to_end s c.in-Some.source) c.self.view_is ∙ sym (closed_some _ _ opened)))
          c.close_source.ensures;
    }

pub returns-in-None : goal.returns-in-None
returns-in-None g c =
    search (rules, closed_none)
