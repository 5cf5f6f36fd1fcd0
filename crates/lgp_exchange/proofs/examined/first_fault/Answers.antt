use Rattle.std.proofs.Common.{◌+◌, length, sym, ap, arith, ◌∙◌}
use Rattle.lgp_exchange.specs.Examined.{fault_from}
use Rattle.lgp_exchange.proofs.Faults.{at_form, at_order, onward}
use Rattle.lgp_exchange.proofs.examined.first_fault.Goals as goal

pub returns-in_default : goal.returns-in_default
returns-in_default c = grind (arith, at_form)

pub returns-then-address-least : goal.returns-then-address-least
returns-then-address-least c = grind (arith, at_order)

pub loop-line-preserved : goal.loop-line-preserved
loop-line-preserved c =
    let number = c.loop-line.number + 1 in
    let cell = c.in-Some-cell_in.cell in
    record {
      can = tt;
      finite = tt;
      few = omega (arith, ap length c.in-Some.ensures.steps, c.loop-line.invariant.few);
      fault = ap (λ a. fault_from (number + 1) (a + 1) c.next.new.self) c.number-address.ensures.value
          ∙ sym (onward c.in-Some.line.now c.next.new.self number c.loop-line.least cell (sym c.cell_in.ensures ∙ c.in-Some-cell_in.is) (omega arith))
          ∙ ap (fault_from number c.loop-line.least) (sym c.in-Some.ensures.steps) ∙ c.loop-line.invariant.fault;
    }

pub returns : goal.returns
unfolding fault_from
returns c = grind arith
