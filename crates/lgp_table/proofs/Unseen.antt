-- Orders that do not look at BREAK POINT and TRANSFER CONTROL do the same however these are set.
use Rattle.std.proofs.Common.{◌≡◌, ℕ, Bool, true, false, nat_le, refl, ap, arith}
use Rattle.std.proofs.lemmas.Bool.Decides.{nat_tests}
use Rattle.lgp_word.specs.declared.order.Op.{Op}
use Rattle.lgp_word.specs.declared.order.Op.TheVariants.{Z, B, Y, R, I, D, N, M, P, E, U, T, H, C, A, S}
use Rattle.lgp_word.specs.Order.{address_at, op_at, sign_of}
use Rattle.lgp_table.specs.State.{Core, State, word_at}
use Rattle.lgp_table.specs.Rows.{Effect, passes_stop, row}
use Rattle.lgp_table.specs.Activity.{after_fetch, after_order, begun_in, core_after, core_after_begun, cost, cost_at}
use Rattle.lgp_table.specs.Activity.{next, print_of, printed_by, resume, time_of}
use Rattle.lgp_table.specs.SwitchPresses.{core_with_switches, looks, looks_at_switches, order_looks, with_switches}
use Rattle.lgp_table.specs.declared.panel.Status.{Status}
use Rattle.lgp_table.specs.declared.panel.Status.TheVariants.{Halted, Going, Executing, Waiting, Reading}
use Rattle.lgp_table.specs.declared.panel.Switches.{Switches}

effect_with_switches : Effect → Switches → Effect
effect_with_switches effect switches = record effect { core = core_with_switches effect.core switches }

-- no bit of a track number below 4 has a switch
passes_no_stop : (switches : Switches) (track : ℕ) → nat_le 4 track ≡ false → passes_stop switches track ≡ false
passes_no_stop switches track low =
    grind (arith, nat_tests)

row_same : (op : Op) (minus : Bool) (m : ℕ) (core : Core) (switches : Switches) → order_looks op minus m ≡ false
    → row op minus m (core_with_switches core switches) ≡ effect_with_switches (row op minus m core) switches
unfolding effect_with_switches
row_same Z minus m core switches blind =
    grind (arith, passes_no_stop)
row_same B minus m core switches blind = refl
row_same Y minus m core switches blind = refl
row_same R minus m core switches blind = refl
row_same I minus m core switches blind = refl
row_same D minus m core switches blind = refl
row_same N minus m core switches blind = refl
row_same M minus m core switches blind = refl
row_same P minus m core switches blind = refl
row_same E minus m core switches blind = refl
row_same U minus m core switches blind = refl
row_same T true m core switches blind = cc
row_same T false m core switches blind = refl
row_same H minus m core switches blind = refl
row_same C minus m core switches blind = refl
row_same A minus m core switches blind = refl
row_same S minus m core switches blind = refl

-- the activity of a status, with its order
time_same : (status : Status) (core : Core) (switches : Switches) (clock : ℕ)
    → time_of (begun_in status (core_with_switches core switches)) status core.tape clock
    ≡ time_of (begun_in status core) status core.tape clock
time_same (Halted cause) core switches clock = refl
time_same Going core switches clock = refl
time_same Executing core switches clock = refl
time_same Waiting core switches clock = refl
time_same Reading core switches clock = refl

pub cost_same : (s : State) (switches : Switches) → cost (with_switches s switches) ≡ cost s
unfolding cost_at
cost_same s switches = time_same _ _ switches _

core_same : (status : Status) (core : Core) (switches : Switches) → looks (begun_in status core) ≡ false
    → core_after_begun (begun_in status (core_with_switches core switches)) status (core_with_switches core switches)
    ≡ core_with_switches (core_after_begun (begun_in status core) status core) switches
unfolding effect_with_switches
core_same (Halted cause) core switches blind = refl
core_same Going core switches blind =
    let word = word_at core core.panel.counter in
    let on = resume core.panel.mode in
    ap (λ (effect : Effect). after_order effect on) (row_same (op_at word) (sign_of word) (address_at word) (after_fetch core) switches blind)
core_same Executing core switches blind =
    grind (arith, after_order, row_same)
core_same Waiting core switches blind = refl
core_same Reading core switches blind = refl

print_same : (status : Status) (core : Core) (switches : Switches) → looks (begun_in status core) ≡ false
    → printed_by (begun_in status (core_with_switches core switches)) ≡ printed_by (begun_in status core)
unfolding effect_with_switches
print_same (Halted cause) core switches blind = refl
print_same Going core switches blind =
    grind (arith, row_same)
print_same Executing core switches blind =
    grind (arith, row_same)
print_same Waiting core switches blind = refl
print_same Reading core switches blind = refl

pub next_same : (s : State) (switches : Switches) → looks_at_switches s ≡ false → next (with_switches s switches) ≡ with_switches (next s) switches
unfolding core_after print_of
next_same s switches blind =
    grind (arith, core_same, print_same, cost_same)

pub ruleset switches_unseen = (cost_same, next_same)
