use Rattle.std.proofs.Common.{◌≡◌, ◌∙◌, None, false, true, rules, sym}
use Rattle.std.proofs.lemmas.Result.{on_ok_weaker}
use Rattle.lgp_command.specs.Command.{command_of}
use Rattle.lgp_script.specs.LabState.{refused}
use Rattle.lgp_script.specs.Script.{is_passed_over}
use Rattle.lgp_script.specs.declared.refusal.Refusal.TheVariants.{Form, TooLong}
use Rattle.lgp_stream.proofs.AnswerLemmas.{answered_as}
use Rattle.lgp_script.proofs.KeptLemmas.{answer_longer, answer_none, answer_passed, answer_some}
use Rattle.lgp_script.proofs.laboratory.Laboratory.answer_command.Goals as goal

pub returns-then-is_passed_over : goal.returns-then-is_passed_over
returns-then-is_passed_over g c = search (rules, answer_passed)

pub returns-then-is_longer : goal.returns-then-is_longer
returns-then-is_longer g c = λ text kept.
    let other : is_passed_over text ≡ false = sym (c.is_passed_over.ensures text kept) ∙ c.if-is_passed_over.false in
    let longer : c.args.line.now.longer ≡ true = search rules in
    answered_as c.push_refusal.result _ _ _ (refused TooLong c.args.self.now) _ (sym (answer_longer _ _ _ kept other longer))
    (on_ok_weaker c.push_refusal.result (λ is. record { reply = is; after = search rules }) c.push_refusal.ensures)

pub returns-in-None : goal.returns-in-None
returns-in-None g c = λ text kept.
    let other : is_passed_over text ≡ false = sym (c.is_passed_over.ensures text kept) ∙ c.if-is_passed_over.false in
    let short : c.args.line.now.longer ≡ false = search rules in
    let none : command_of c.args.line.now.front ≡ None = search rules in
    answered_as c.push_refusal-in-None.result _ _ _ (refused Form c.args.self.now) _ (sym (answer_none _ _ _ kept other short none))
    (on_ok_weaker c.push_refusal-in-None.result (λ is. record { reply = is; after = search rules }) c.push_refusal-in-None.ensures)

pub returns-in-Some : goal.returns-in-Some
returns-in-Some g c = search (rules, answer_some)
