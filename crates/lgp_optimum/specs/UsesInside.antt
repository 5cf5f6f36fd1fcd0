-- Serves proofs only: how uses of words are added.
use Rattle.std.specs.Prelude.{ℕ, ◌==◌, ◌&&◌, ◌||◌, Bool, true, false, not, if◌then◌else◌}
use Rattle.std.specs.Prelude.{Option, Some, None, List, replicate}
use Rattle.lgp_word.specs.Order.{address_at, op_at}
use Rattle.lgp_table.specs.Activity.{seeks}
use Rattle.lgp_optimum.specs.OptimumKept.{no_use, use_at}
use Rattle.lgp_trace.specs.declared.account.Operand.{Operand}
use Rattle.lgp_optimum.specs.declared.uses.Use.{Use}

unfoldable pub no_uses : List Use
no_uses = replicate 4096 no_use

-- a use and another one together
abbrev pub joined : Use → Use → Use
joined before more = record {
  named = before.named || more.named;
  performed = before.performed || more.performed;
  changed = before.changed || more.changed;
  by_other = before.by_other || more.by_other;
}

-- the use of a word, with one more of the word at an address
abbrev pub use_with : List Use → ℕ → Use → ℕ → Use
use_with uses address more other =
    if other == address then joined (use_at uses other) more else use_at uses other

-- with an order that was at a place
abbrev pub use_with_place : List Use → Option ℕ → ℕ → Use
use_with_place uses None other = use_at uses other
use_with_place uses (Some place) other = record (use_at uses other) {
  performed = (use_at uses other).performed || (place == other);
}

-- whether an order has left another word at an address
abbrev pub leaves_other : Operand → Bool
leaves_other operand = not (operand.found == operand.left)

abbrev pub changes_by : Option Operand → ℕ → Bool
changes_by None address = false
changes_by (Some operand) address = leaves_other operand && (address == operand.address)

-- whether a word as an order waits for the word at an address
abbrev pub word_names : ℕ → ℕ → Bool
word_names word address = seeks (op_at word) && (address_at word == address)

-- with what a word named that was performed and not changed before
abbrev pub use_with_named : List Use → Operand → ℕ → Use
use_with_named uses operand other =
    let before = use_at uses operand.address in
    record (use_at uses other) {
      by_other = (use_at uses other).by_other
          || (before.performed && not before.changed && word_names operand.found other);
    }

-- with an order that may have left another word
abbrev pub use_with_change : List Use → Operand → ℕ → Use
use_with_change uses operand other =
    let before = use_at uses operand.address in
    record (use_at uses other) {
      changed = (use_at uses other).changed || changes_by (Some operand) other;
      by_other = (use_at uses other).by_other || (leaves_other operand
          && (before.performed && not before.changed && word_names operand.found other));
    }

-- whether an order at a place is not the one that was there at the start
abbrev pub is_other : List Use → Option ℕ → Bool
is_other uses None = true
is_other uses (Some place) = (use_at uses place).changed

abbrev pub is_other_with : List Use → Operand → Option ℕ → Bool
is_other_with uses operand None = true
is_other_with uses operand (Some place) = (use_with_change uses operand place).changed

-- with an order that may have waited for a word
abbrev pub use_with_operand : List Use → Option ℕ → Option Operand → ℕ → Use
use_with_operand uses place None other = use_at uses other
use_with_operand uses place (Some operand) other =
    let before = use_with_change uses operand other in
    record before {
      named = before.named || (operand.address == other);
      by_other = before.by_other
          || ((operand.address == other) && is_other_with uses operand place);
    }
