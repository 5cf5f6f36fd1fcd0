-- What an activity leaves on the drum and on the tape.
use Rattle.std.proofs.Common.{rules, ◌≡◌, ◌≢◌, ℕ, ◌+◌, ◌≤◌, Bool, Some, None, option_map, refl, arith, cond, length, length-append}
use Rattle.lgp_word.specs.declared.order.Op.{Op}
use Rattle.lgp_word.specs.declared.order.Op.TheVariants.{Z, B, Y, R, I, D, N, M, P, E, U, T, H, C, A, S}
use Rattle.lgp_word.specs.Order.{address_at, op_at, sign_of}
use Rattle.lgp_flexo.specs.Tape.{passing}
use Rattle.lgp_table.specs.Rows.{row}
use Rattle.lgp_table.specs.State.{Core, State, word_at}
use Rattle.lgp_table.specs.Activity.{after_fetch, begun_in, core_after, core_after_begun, next, stores}
use Rattle.lgp_table.specs.declared.panel.Status.{Status}
use Rattle.lgp_table.specs.declared.panel.Status.TheVariants.{Halted, Going, Executing, Waiting, Reading}
use Rattle.lgp_trace.specs.Account.{account_of, order_of, stored_address}

row-other : (op : Op) (minus : Bool) (m : ℕ) (core : Core) (address : ℕ) → cond (stores op) (Some m) None ≢ Some address → word_at (row op minus m core).core address ≡ word_at core address
row-other op minus m core address = search rules

core_after_begun-other : (status : Status) (core : Core) (address : ℕ) → stored_address (option_map (λ order. order.word) (begun_in status core)) ≢ Some address → word_at (core_after_begun (begun_in status core) status core) address ≡ word_at core address
core_after_begun-other (Halted cause) core address other = refl
core_after_begun-other Going core address other =
    grind (arith, row-other)
core_after_begun-other Executing core address other =
    grind (arith, row-other)
core_after_begun-other Waiting core address other = refl
core_after_begun-other Reading core address other = refl

pub other_words : (s : State) (address : ℕ) → stored_address (order_of s) ≢ Some address → word_at (next s).core address ≡ word_at s.core address
unfolding core_after
other_words s address other = core_after_begun-other _ _ _ other

row-passed : (op : Op) (minus : Bool) (m : ℕ) (core : Core) → length core.tape.passed ≤ length (row op minus m core).core.tape.passed
row-passed op minus m core = elim op as (λ op. length core.tape.passed ≤ length (row op minus m core).core.tape.passed)
    [ Z ↦ omega arith | B ↦ omega arith | Y ↦ omega arith | R ↦ omega arith | I ↦ omega (arith, length-append core.tape.passed (passing core.tape)) | D ↦ omega arith | N ↦ omega arith | M ↦ omega arith | P ↦ omega arith | E ↦ omega arith | U ↦ omega arith | T ↦ omega arith | H ↦ omega arith | C ↦ omega arith | A ↦ omega arith | S ↦ omega arith ]

core_after_begun-passed : (status : Status) (core : Core) → length core.tape.passed ≤ length (core_after_begun (begun_in status core) status core).tape.passed
core_after_begun-passed (Halted cause) core = omega arith
core_after_begun-passed Going core =
    let word = word_at core core.panel.counter in
    row-passed (op_at word) (sign_of word) (address_at word) (after_fetch core)
core_after_begun-passed Executing core =
    let word = core.panel.register in
    row-passed (op_at word) (sign_of word) (address_at word) core
core_after_begun-passed Waiting core = omega arith
core_after_begun-passed Reading core = omega (arith, length-append core.tape.passed (passing core.tape))

pub codes_passed : (s : State) → length (next s).core.tape.passed ≡ length s.core.tape.passed + (account_of s).passed
unfolding core_after
codes_passed s = omega (arith, core_after_begun-passed s.core.panel.status s.core)
