use Rattle.std.proofs.Common.{◌≡◌, ◌∙◌, ℕ, Some, Err, ap}
use Rattle.lgp_exchange.specs.Examined.{first_fault}
use Rattle.lgp_exchange.specs.declared.examined.ExaminedFault.TheVariants.{Form, Memory, Order}
use Rattle.lgp_desk.proofs.FormLemmas.{simh-fault, simh-refused}
use Rattle.lgp_desk.proofs.file_forms.simh_dump.Goals as goal

no-form : (line : ℕ) → Form line ≡ Memory → ⊥
no-form line e = cc

no-order : (line : ℕ) → Order line ≡ Memory → ⊥
no-order line e = cc

pub returns-in-Err-Form : goal.returns-in-Err-Form
returns-in-Err-Form g c =
    let line = c.in-Err-Form.line in
    let found : first_fault c.args.text.now ≡ Some (Form line) = simh-fault c.args.text.now c.read_examined.result c.read_examined.ensures.faulty (Form line) (c.in-Err-Form.is ∙ ap Err c.in-Err-Form.field-0-is) c.read_examined.ensures.faultless (no-form line) in
    rw c.in-Err-Form.line-is (simh-refused c.args.text.now (Form line) found)

pub returns-in-Err-Order : goal.returns-in-Err-Order
returns-in-Err-Order g c =
    let line = c.in-Err-Order.line in
    let found : first_fault c.args.text.now ≡ Some (Order line) = simh-fault c.args.text.now c.read_examined.result c.read_examined.ensures.faulty (Order line) (c.in-Err-Order.is ∙ ap Err c.in-Err-Order.field-0-is) c.read_examined.ensures.faultless (no-order line) in
    rw c.in-Err-Order.line-is (simh-refused c.args.text.now (Order line) found)
