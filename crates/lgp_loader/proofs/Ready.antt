-- What the steps of loading need to know of each other, whatever the loader and its tape.
use Rattle.std.proofs.Common.{◌≡◌, ℕ, ◌+◌, ◌<◌, ◌≤◌, Bool, true, false, refl, sym, ap, ◌∙◌, arith, List, length, ◌-◌}
use Rattle.std.specs.Bool.{OnFalse}
use Rattle.std.specs.Prelude.{IsTrue}
use Rattle.lgp_flexo.specs.TapeText.{tape_limit}
use Rattle.lgp_machine.specs.declared.fault.MountFault.{MountFault}
use Rattle.lgp_machine.specs.declared.fault.MountFault.TheVariants.{Moving, TooLong, Memory}
use Rattle.lgp_table.specs.State.{State}
use Rattle.lgp_table.specs.Activity.{cost, next}
use Rattle.lgp_table.specs.After.{after, total_cost}
use Rattle.lgp_table.specs.Interleaving.{Configuration, at_boundary}
use Rattle.lgp_machine.specs.Answers.{clock_end}
use Rattle.lgp_table.proofs.After.{after_none, after_one_more, after_sum, clock_after}
use Rattle.lgp_keyin.specs.KeyIn.{about_to_jump, keyed}
use Rattle.lgp_loader.specs.Loading.{TapeLoad, begun, loaded, prepared}
use Rattle.lgp_assembler.specs.Parts.{loader_base}
use Rattle.lgp_loader.proofs.Begun.{keyed_up}

-- the clock goes on
pub clock_later : (s : State) (first then : ℕ) → first ≤ then → (after s first).clock ≤ (after s then).clock
clock_later s first then le =
    let same : first + (then - first) ≡ then = omega (arith, le) in
    let parts : (after s then).clock ≡ (after (after s first) (then - first)).clock =
    ap (λ n. (after s n).clock) (sym same) ∙ ap (λ (t : State). t.clock) (after_sum s _ _) in
    omega (arith, parts, clock_after (after s first) (then - first))

pub begun_later : (s : State) (load : TapeLoad) → (keyed s loader_base load.loader).clock ≤ (begun s load).clock
begun_later s load = omega arith

pub loading_time : (s : State) (load : TapeLoad) → (loaded s load).clock ≡ (begun s load).clock + total_cost (begun s load) load.orders
loading_time s load = clock_after _ _

-- a given number of orders are performed
pub record HasPerformed (now : Configuration) (s : State) (done : ℕ) : Type 0 where
  pub at : now ≡ at_boundary (after s done)
  pub clock : 0 < done → now.state.clock ≤ clock_end

pub none_performed : (now : Configuration) (s : State) → now ≡ at_boundary s → HasPerformed now s 0
none_performed now s at = record {
  at = at ∙ ap at_boundary (sym (after_none s));
  clock = λ some. absurd (let wrong : ⊥ = omega (arith, some) in wrong);
}

pub one_more_performed : (now then : Configuration) (s : State) (done : ℕ) → HasPerformed now s done → then ≡ at_boundary (next now.state) → then.state.clock ≤ clock_end
    → HasPerformed then s (done + 1)
one_more_performed now then s done so is clock = record {
  at = is ∙ (ap (λ (c : Configuration). at_boundary (next c.state)) so.at ∙ ap at_boundary (sym (after_one_more s _)));
  clock = λ some. clock;
}

-- a machine at rest takes a short tape
pub no_mount_fault : (fault : MountFault) (rests : Bool) (codes : List ℕ) → (fault ≡ Moving → rests ≡ false) → (fault ≡ TooLong → IsTrue rests × (tape_limit < length codes)) → (fault ≡ Memory → ⊥)
    → rests ≡ true → length codes ≤ tape_limit → ⊥
no_mount_fault Moving rests codes moving long _ at_rest _ = let not = moving refl in cc
no_mount_fault TooLong rests codes moving long _ at_rest short = let (rest, over) = long refl in omega (arith, over, short)
no_mount_fault Memory rests codes moving long never at_rest short = absurd (never refl)

-- where the clock's end is met, the clock after loading would be past it
pub past_by_keying : (s : State) (load : TapeLoad) → clock_end < (keyed s loader_base load.loader).clock → clock_end < (loaded s load).clock
past_by_keying s load past =
    grind (arith, begun_later, loading_time)

pub past_by_jump : (now : Configuration) (s : State) (load : TapeLoad) → now ≡ at_boundary (about_to_jump (prepared s load) loader_base)
    → clock_end < now.state.clock + cost now.state → clock_end < (loaded s load).clock
past_by_jump now s load at past =
    grind (arith, loading_time)

pub past_by_order : (now : Configuration) (s : State) (load : TapeLoad) → (done : ℕ) × (done < load.orders) × (now ≡ at_boundary (after (begun s load) done)) → clock_end < now.state.clock + cost now.state → clock_end < (loaded s load).clock
past_by_order now s load (done, less, at) past =
    let same : now.state.clock + cost now.state ≡ (after (begun s load) (done + 1)).clock =
    ap (λ (c : Configuration). (next c.state).clock) at ∙ ap (λ (t : State). t.clock) (sym (after_one_more _ _)) in
    let later = clock_later (begun s load) (done + 1) load.orders (omega (arith, less)) in
    omega (arith, past, same, later)

-- what two things that hold at false give there
pub at_false : {X Y Z : Type 0} (b : Bool) → OnFalse b X → OnFalse b Y → (X → Y → Z) → OnFalse b Z
at_false true x y f = tt
at_false false x y f = f x y

pub ruleset tape_steps = (keyed_up, past_by_keying)
