use Rattle.std.proofs.Common.{◌≡◌, ◌∙◌, ◌++◌, List, ℕ, Err, Some, ap}
use Rattle.std.proofs.lemmas.Result.{IfOk-weaker, on_ok_weaker}
use Rattle.lgp_stream.specs.Transcript.{after_lines}
use Rattle.lgp_listing.specs.Dump.{first_fault}
use Rattle.lgp_listing.specs.declared.reading.DumpFault.{DumpFault}
use Rattle.lgp_listing.specs.declared.reading.DumpFault.TheVariants.{Form, Order, Memory}
use Rattle.lgp_script.specs.Script.{script_language}
use Rattle.lgp_monitor.specs.FileTexts.{dump_fault_text}
use Rattle.lgp_monitor.proofs.RestoreLemmas.{fault_is, faulty_after, faulty_refused, faulty_reply, restored_lines, restored_refused, restored_reply}
use Rattle.lgp_monitor.proofs.file_texts.restore.Goals as goal

not_form : (line : ℕ) → Form line ≡ Memory → ⊥
not_form line e = cc (e)

not_order : (line : ℕ) → Order line ≡ Memory → ⊥
not_order line e = cc (e)

pub returns-in-Ok-clause-answer : goal.returns-in-Ok-clause-answer
returns-in-Ok-clause-answer g c = on_ok_weaker c.restore_drum.result
    (λ is. record {
      reply = is.reply ∙ ap (λ (text : List ℕ). c.args.reply.now.items ++ text)
          (restored_reply _ _ _ c.in-Ok.ensures.words c.in-Ok.ensures.drum);
      after = is.after ∙ ap (λ (lines : List (List ℕ)). after_lines script_language c.args.recorder.now lines)
          (restored_lines _ _ _ c.in-Ok.ensures.words c.in-Ok.ensures.drum);
    })
    c.restore_drum.ensures.answer

pub returns-in-Ok-clause-refused : goal.returns-in-Ok-clause-refused
returns-in-Ok-clause-refused g c =
    IfOk-weaker c.restore_drum.result _ _
    (λ refused is. is ∙ restored_refused _ _ _ c.in-Ok.ensures.words c.in-Ok.ensures.drum)
    c.restore_drum.ensures.refused

pub returns-in-Err-Form-clause-answer : goal.returns-in-Err-Form-clause-answer
returns-in-Err-Form-clause-answer g c =
    let fault : DumpFault = Form c.in-Err-Form.line in
    let found : first_fault c.args.dump.now ≡ Some fault =
    fault_is _ _ _ (c.in-Err-Form.is ∙ ap Err c.in-Err-Form.field-0-is) (not_form _)
    c.read_dump.ensures.faulty c.read_dump.ensures.faultless in
    on_ok_weaker c.refuse_dump.result
    (λ is. record {
      reply = is ∙ ap (λ (line : ℕ). c.args.reply.now.items ++ dump_fault_text (Form line)) c.in-Err-Form.line-is
          ∙ ap (λ (text : List ℕ). c.args.reply.now.items ++ text) (faulty_reply _ _ _ found);
      after = faulty_after _ _ _ found;
    })
    c.refuse_dump.ensures.text

pub returns-in-Err-Form-clause-refused : goal.returns-in-Err-Form-clause-refused
returns-in-Err-Form-clause-refused g c =
    let fault : DumpFault = Form c.in-Err-Form.line in
    let found : first_fault c.args.dump.now ≡ Some fault =
    fault_is _ _ _ (c.in-Err-Form.is ∙ ap Err c.in-Err-Form.field-0-is) (not_form _)
    c.read_dump.ensures.faulty c.read_dump.ensures.faultless in
    IfOk-weaker c.refuse_dump.result _ _ (λ refused is. is ∙ faulty_refused _ _ _ found) c.refuse_dump.ensures.refused

pub returns-in-Err-Order-clause-answer : goal.returns-in-Err-Order-clause-answer
returns-in-Err-Order-clause-answer g c =
    let fault : DumpFault = Order c.in-Err-Order.line in
    let found : first_fault c.args.dump.now ≡ Some fault =
    fault_is _ _ _ (c.in-Err-Order.is ∙ ap Err c.in-Err-Order.field-0-is) (not_order _)
    c.read_dump.ensures.faulty c.read_dump.ensures.faultless in
    on_ok_weaker c.refuse_dump-in-Err-Order.result
    (λ is. record {
      reply = is ∙ ap (λ (line : ℕ). c.args.reply.now.items ++ dump_fault_text (Order line)) c.in-Err-Order.line-is
          ∙ ap (λ (text : List ℕ). c.args.reply.now.items ++ text) (faulty_reply _ _ _ found);
      after = faulty_after _ _ _ found;
    })
    c.refuse_dump-in-Err-Order.ensures.text

pub returns-in-Err-Order-clause-refused : goal.returns-in-Err-Order-clause-refused
returns-in-Err-Order-clause-refused g c =
    let fault : DumpFault = Order c.in-Err-Order.line in
    let found : first_fault c.args.dump.now ≡ Some fault =
    fault_is _ _ _ (c.in-Err-Order.is ∙ ap Err c.in-Err-Order.field-0-is) (not_order _)
    c.read_dump.ensures.faulty c.read_dump.ensures.faultless in
    IfOk-weaker c.refuse_dump-in-Err-Order.result _ _ (λ refused is. is ∙ faulty_refused _ _ _ found) c.refuse_dump-in-Err-Order.ensures.refused
