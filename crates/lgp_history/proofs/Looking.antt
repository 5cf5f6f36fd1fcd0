-- What a machine at a boundary shows, and what the order in the instruction register loses.
use Rattle.std.proofs.Common.{◌≡◌, ℕ, cond, Option, Some, None, sym, ap, ◌∙◌, IsTrue}
use Rattle.std.proofs.lemmas.Option.{same_Some}
use Rattle.lgp_word.specs.Order.{address_at, op_at}
use Rattle.lgp_word.specs.declared.order.Op.{Op}
use Rattle.lgp_table.specs.Interleaving.{Configuration, is_boundary}
use Rattle.lgp_table.specs.declared.panel.Panel.{Panel}
use Rattle.lgp_machine.specs.Look.{look_of, seen_at_boundary}
use Rattle.lgp_machine.specs.declared.look.Look.{Look}
use Rattle.lgp_history.specs.RecordedInside.{lost_by, lost_by_order}

-- what is shown at a boundary
looked : (m : Configuration) (look : Look) → IsTrue (is_boundary m) → Some look ≡ seen_at_boundary m (look_of m.state) → look ≡ look_of m.state
looked m look boundary shows = same_Some look (look_of m.state) (shows ∙ ap (λ b. cond b (Some (look_of m.state)) None) boundary)

pub lost_in_register : (m : Configuration) (look : Look) (op : Op) (address : ℕ) (lost : Option (ℕ × ℕ)) → IsTrue (is_boundary m) → Some look ≡ seen_at_boundary m (look_of m.state) → op ≡ op_at look.register → address ≡ address_at look.register
    → ((panel : Panel) → panel.accumulator ≡ look.accumulator → panel.counter ≡ look.counter → lost ≡ lost_by op address (record m.state.core { panel = panel }))
    → lost ≡ lost_by_order m.state.core.panel.register m.state.core
lost_in_register m look op address lost boundary shows op_is address_is loses =
    let is = looked m _ boundary shows in
    loses m.state.core.panel (ap (λ (l : Look). l.accumulator) (sym is)) (ap (λ (l : Look). l.counter) (sym is))
    ∙ ap (λ o. lost_by o address m.state.core) (op_is ∙ ap (λ (l : Look). op_at l.register) is)
    ∙ ap (λ a. lost_by (op_at m.state.core.panel.register) a m.state.core) (address_is ∙ ap (λ (l : Look). address_at l.register) is)
