-- Activities one after another, over the core alone: no core depends on the clock.
use Rattle.std.proofs.Common.{◌≡◌, ℕ, zero, suc, ◌<◌, sym, ap, ◌∙◌, subst, arith, ◌++◌, append-nil, option_to_list}
use Rattle.lgp_table.specs.State.{Core, State}
use Rattle.lgp_table.specs.Activity.{core_after, next}
use Rattle.lgp_table.specs.After.{after}
use Rattle.lgp_table.proofs.After.{after_first, after_none}
use Rattle.lgp_loader.proofs.Orders.{IsCalm, Leads}

-- a given number of calm activities lead from a core to this one
abbrev pub Runs : ℕ → Core → Core → Type 0
Runs zero core last = core ≡ last
Runs (suc count) core last = IsCalm core × Runs count (core_after core) last

pub one_then : (count : ℕ) (core next last : Core) → Leads core next → Runs count next last → Runs (suc count) core last
one_then count core next last leads runs = (leads.calm, subst (λ core. Runs count core last) (sym leads.next) runs)

-- the state after a calm activity
calm_next : (s : State) → IsCalm s.core → next s ≡ record { core = core_after s.core; printed = s.printed; clock = (next s).clock }
calm_next s calm =
    ap (λ code. record { core = core_after s.core; printed = s.printed ++ option_to_list code; clock = (next s).clock }) calm.silent
    ∙ ap (λ printed. record { core = core_after s.core; printed = printed; clock = (next s).clock }) (append-nil s.printed)

-- the state after all of them
pub state_after_run : (s : State) (count : ℕ) (last : Core) → Runs count s.core last
    → after s count ≡ record { core = last; printed = s.printed; clock = (after s count).clock }
state_after_run s zero last same =
    grind (arith, after_none)
state_after_run s (suc count) last (calm, runs) =
    grind (arith, after_first, calm_next, state_after_run (next s) count last runs)

-- each of them is calm
pub calm_at : (s : State) (count : ℕ) (last : Core) → Runs count s.core last → (before : ℕ) → before < count → IsCalm (after s before).core
calm_at s zero last same before less = absurd (let wrong : ⊥ = omega (arith, less) in wrong)
calm_at s (suc count) last (calm, runs) zero less = subst (λ (t : State). IsCalm t.core) (sym (after_none s)) calm
calm_at s (suc count) last (calm, runs) (suc before) less =
    subst (λ (t : State). IsCalm t.core) (sym (after_first s _)) (calm_at (next s) count last runs before (omega (arith, less)))
