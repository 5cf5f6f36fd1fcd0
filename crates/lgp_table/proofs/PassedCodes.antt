-- No order, cost or action looks at the codes that have passed the reader.
use Rattle.std.proofs.Common.{◌≡◌, ℕ, Bool, ap, refl}
use Rattle.lgp_word.specs.declared.order.Op.{Op}
use Rattle.lgp_word.specs.declared.order.Op.TheVariants.{Z, B, Y, R, I, D, N, M, P, E, U, T, H, C, A, S}
use Rattle.lgp_word.specs.Order.{address_at, op_at, sign_of}
use Rattle.lgp_table.specs.State.{Core, State, word_at}
use Rattle.lgp_table.specs.Rows.{Effect, row}
use Rattle.lgp_table.specs.Activity.{act_time, after_fetch, after_order, begun_in, core_after, core_after_begun, cost, cost_at}
use Rattle.lgp_table.specs.Activity.{next, print_of, printed_by, resume, time_of}
use Rattle.lgp_table.specs.declared.panel.Cause.TheVariants.{Step}
use Rattle.lgp_table.specs.PassedCodes.{core_without_passed, without_passed}
use Rattle.lgp_table.specs.declared.panel.Status.{Status}
use Rattle.lgp_table.specs.declared.panel.Status.TheVariants.{Halted, Going, Executing, Waiting, Reading}

-- an effect whose core is without the codes that have passed
effect_without_passed : Effect → Effect
effect_without_passed effect = record effect { core = core_without_passed effect.core }

row-without : (op : Op) (minus : Bool) (m : ℕ) (core : Core) → effect_without_passed (row op minus m (core_without_passed core)) ≡ effect_without_passed (row op minus m core)
unfolding effect_without_passed
row-without Z minus m core = refl
row-without B minus m core = refl
row-without Y minus m core = refl
row-without R minus m core = refl
row-without I minus m core = refl
row-without D minus m core = refl
row-without N minus m core = refl
row-without M minus m core = refl
row-without P minus m core = refl
row-without E minus m core = refl
row-without U minus m core = refl
row-without T minus m core = refl
row-without H minus m core = refl
row-without C minus m core = refl
row-without A minus m core = refl
row-without S minus m core = refl

act_time-without : (op : Op) (m : ℕ) (core : Core) → act_time op m (core_without_passed core).tape ≡ act_time op m core.tape
unfolding act_time
act_time-without op m core = elim op as (λ op. act_time op m (core_without_passed core).tape ≡ act_time op m core.tape) [ Z ↦ refl | B ↦ refl | Y ↦ refl | R ↦ refl | I ↦ refl | D ↦ refl | N ↦ refl | M ↦ refl | P ↦ refl | E ↦ refl | U ↦ refl | T ↦ refl | H ↦ refl | C ↦ refl | A ↦ refl | S ↦ refl ]

-- the activity of a status, with its order
time_of-without : (status : Status) (core : Core) (clock : ℕ)
    → time_of (begun_in status (core_without_passed core)) status (core_without_passed core).tape clock
    ≡ time_of (begun_in status core) status core.tape clock
time_of-without (Halted cause) core clock = refl
time_of-without Going core clock =
    rw (act_time-without _ _ _)
time_of-without Executing core clock = rw (act_time-without _ _ _)
time_of-without Waiting core clock = refl
time_of-without Reading core clock = refl

pub cost-without : (s : State) → cost (without_passed s) ≡ cost s
unfolding cost_at
cost-without s = time_of-without _ _ _

core_after_begun-without : (status : Status) (core : Core)
    → core_without_passed (core_after_begun (begun_in status (core_without_passed core)) status (core_without_passed core))
    ≡ core_without_passed (core_after_begun (begun_in status core) status core)
unfolding effect_without_passed
core_after_begun-without (Halted cause) core = refl
core_after_begun-without Going core =
    let word = word_at core core.panel.counter in
    let on = resume core.panel.mode in
    ap (λ (effect : Effect). after_order effect on) (row-without (op_at word) (sign_of word) (address_at word) (after_fetch core))
core_after_begun-without Executing core =
    let word = core.panel.register in
    ap (λ (effect : Effect). after_order effect (Halted Step)) (row-without (op_at word) (sign_of word) (address_at word) core)
core_after_begun-without Waiting core = refl
core_after_begun-without Reading core = refl

printed_by-without : (status : Status) (core : Core)
    → printed_by (begun_in status (core_without_passed core)) ≡ printed_by (begun_in status core)
unfolding effect_without_passed
printed_by-without (Halted cause) core = refl
printed_by-without Going core =
    let word = word_at core core.panel.counter in
    ap (λ (effect : Effect). effect.prints) (row-without (op_at word) (sign_of word) (address_at word) (after_fetch core))
printed_by-without Executing core =
    let word = core.panel.register in
    ap (λ (effect : Effect). effect.prints) (row-without (op_at word) (sign_of word) (address_at word) core)
printed_by-without Waiting core = refl
printed_by-without Reading core = refl

pub next-without : (s : State) → without_passed (next (without_passed s)) ≡ without_passed (next s)
unfolding core_after print_of
next-without s =
    let core = core_after_begun-without s.core.panel.status s.core in
    let prints = printed_by-without s.core.panel.status s.core in
    let time = cost-without s in
    cc

pub ruleset without_passed_codes = (cost-without, next-without)
