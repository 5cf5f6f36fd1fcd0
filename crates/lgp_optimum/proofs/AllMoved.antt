-- All words of a freedom at their best sectors at once: the same orders save the sum of what each word saves alone.
use Rattle.std.proofs.Common.{◌≡◌, ◌≢◌, ◌∙◌, ℕ, zero, suc, ◌+◌, ◌≤◌, ◌==◌, Bool, false, cond, map, sum, ap, refl, subst, arith}
use Rattle.std.proofs.lemmas.Bool.Decides.{nat_tests}
use Rattle.std.proofs.lemmas.List.FromFn.{sum_by-map-range_with_len_more}
use Rattle.std.specs.List.{range_with_len}
use Rattle.lgp_word.specs.Address.{sector_of}
use Rattle.lgp_table.specs.After.{after}
use Rattle.lgp_table.specs.State.{State}
use Rattle.lgp_optimum.specs.Optimum.{clock_with, moved}
use Rattle.lgp_optimum.specs.Gains.{Moves, best_of, best_sectors, gain_if, gain_of, gains_of, moves_of, sector_if}
use Rattle.lgp_optimum.specs.declared.uses.Freedom.{Freedom}
use Rattle.lgp_optimum.specs.declared.uses.Freedom.TheVariants as freedoms
use Rattle.lgp_optimum.proofs.GainLemmas.{best_saves}
use Rattle.lgp_optimum.proofs.MovedClocks.{clock_own, own_sector, savings_add}

-- a word at a later address than those that moved stands at its own sector
stays_at : (moves : Moves) (wanted : Freedom) (n address : ℕ) → n ≤ address → best_sectors moves wanted n address ≡ sector_of address
unfolding best_sectors
stays_at moves wanted zero address within = refl
stays_at moves wanted (suc n) address within =
    let other : address ≢ n = λ (e : address ≡ n). absurd (omega (arith, e, within)) in
    let test : (address == n) ≡ false = grind (arith, nat_tests, other) in
    ap (λ (b : Bool). cond b (sector_if wanted (moves.free n) (best_of moves n).sector (sector_of n)) (best_sectors moves wanted n address)) test
    ∙ stays_at moves wanted n address (omega arith)

-- one word at its sector saves what it has to gain
saves_alone : (s : State) (count word : ℕ) (wanted has : Freedom)
    → clock_with (moved word (sector_if wanted has (best_of (moves_of s count) word).sector (sector_of word))) s count + gain_if wanted has (best_of (moves_of s count) word).saved
    ≡ (after s count).clock
saves_alone s count word freedoms.Free freedoms.Free = best_saves s count word
saves_alone s count word freedoms.Performed freedoms.Performed = best_saves s count word
saves_alone s count word freedoms.NamedByChanged freedoms.NamedByChanged = best_saves s count word
saves_alone s count word freedoms.Unnamed has = omega (arith, own_sector s count word)
saves_alone s count word freedoms.Free freedoms.Unnamed = omega (arith, own_sector s count word)
saves_alone s count word freedoms.Free freedoms.Performed = omega (arith, own_sector s count word)
saves_alone s count word freedoms.Free freedoms.NamedByChanged = omega (arith, own_sector s count word)
saves_alone s count word freedoms.Performed freedoms.Unnamed = omega (arith, own_sector s count word)
saves_alone s count word freedoms.Performed freedoms.Free = omega (arith, own_sector s count word)
saves_alone s count word freedoms.Performed freedoms.NamedByChanged = omega (arith, own_sector s count word)
saves_alone s count word freedoms.NamedByChanged freedoms.Unnamed = omega (arith, own_sector s count word)
saves_alone s count word freedoms.NamedByChanged freedoms.Free = omega (arith, own_sector s count word)
saves_alone s count word freedoms.NamedByChanged freedoms.Performed = omega (arith, own_sector s count word)

first_save : (s : State) (count : ℕ) (wanted : Freedom) (n : ℕ)
    → clock_with (best_sectors (moves_of s count) wanted n) s count + sum (map (gain_of (moves_of s count) wanted) (range_with_len 0 n)) ≡ (after s count).clock
unfolding best_sectors gain_of
first_save s count wanted zero = omega (arith, clock_own s count)
first_save s count wanted (suc n) =
    let moves : Moves = moves_of s count in
    let on : n + 1 ≡ suc n = omega arith in
    let sector : ℕ = sector_if wanted (moves.free n) (best_of moves n).sector (sector_of n) in
    let adds = savings_add s count (best_sectors moves wanted n) n sector (stays_at moves wanted n n (omega arith)) in
    let alone = saves_alone s count n wanted (moves.free n) in
    let before = first_save s count wanted n in
    let grown = sum_by-map-range_with_len_more (λ (x : ℕ). x) (gain_of moves wanted) 0 n n (omega arith) in
    subst (λ (k : ℕ). clock_with (best_sectors moves wanted (suc n)) s count + sum (map (gain_of moves wanted) (range_with_len 0 k)) ≡ (after s count).clock) on
    (omega (arith, adds, alone, before, grown))

pub all_moved : (s : State) (count : ℕ) (wanted : Freedom)
    → clock_with (best_sectors (moves_of s count) wanted 4096) s count + sum (gains_of (moves_of s count) wanted) ≡ (after s count).clock
unfolding gains_of
all_moved s count wanted = first_save s count wanted 4096
