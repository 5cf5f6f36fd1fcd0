-- What is kept of orders, one order after another, and what it tells of them.
use Rattle.std.proofs.Common.{◌≡◌, ◌∙◌, ℕ, zero, suc, ◌+◌, ◌*◌, ◌<◌, ◌≤◌, false, Option, Some, None, option_map, slice_index, replicate, ap, refl, sym, subst, inl, inr, arith}
use Rattle.std.proofs.lemmas.Bool.{cases_lt}
use Rattle.std.proofs.lemmas.List.{get_or-replicate, get_or_past}
use Rattle.lgp_word.specs.Address.{sector_of}
use Rattle.lgp_table.specs.After.{after}
use Rattle.lgp_table.specs.Console.{is_at_rest}
use Rattle.lgp_table.specs.State.{Core, State}
use Rattle.lgp_trace.specs.Account.{operand_in, place_of}
use Rattle.lgp_optimum.specs.Optimum.{clock_with, freedom, freedom_of, moved, took_with}
use Rattle.lgp_optimum.specs.OptimumInside.{ShowsSame, seek_with}
use Rattle.lgp_optimum.specs.OptimumKept.{AreUsesOf, IsOptimumOf, Kept, last_seek, seek_after, seek_of, Turned, times_at, turns_at, use_at, wait_of}
use Rattle.lgp_trace.specs.Phases.{all_phases, phases_of}
use Rattle.lgp_optimum.specs.TurnsInside.{is_last_late, no_turns, one_turn_if}
use Rattle.lgp_optimum.specs.UsesInside.{no_uses}
use Rattle.lgp_trace.specs.declared.account.Found.{Found}
use Rattle.lgp_optimum.specs.declared.optimum.Seek.{Seek}
use Rattle.lgp_trace.specs.declared.phases.Phases.{Phases}
use Rattle.lgp_optimum.specs.declared.uses.Use.{Use}
use Rattle.lgp_trace.proofs.PhaseLaws.{phases_cost}
use Rattle.lgp_optimum.proofs.Shares.{shares_more}
use Rattle.lgp_optimum.proofs.UsesLemmas.{no_uses_at}

pub seek_with_found : (found : Option Found) (after : Core) (clock : ℕ) (phases : Phases) → seek_with (option_map (operand_in after) found) clock phases ≡ seek_after found clock phases
seek_with_found None after clock phases = refl
seek_with_found (Some found) after clock phases = refl

pub no_turns_at : (word sector : ℕ) → word < 4096 → sector < 64 → turns_at no_turns word sector ≡ 0
unfolding no_turns
no_turns_at word sector on_drum on_track =
    let row : slice_index (replicate 4096 0) word ≡ 0 = get_or-replicate 4096 word 0 0 on_drum in
    let at : 64 * slice_index (replicate 4096 0) word + sector ≡ sector = omega (arith, row) in
    ap (slice_index (replicate 64 0)) at ∙ get_or-replicate 64 sector 0 0 on_track

pub no_orders : (kept : Kept) (s : State) → kept.took ≡ 0 → kept.turned ≡ no_turns → kept.last ≡ None → kept.uses ≡ no_uses → IsOptimumOf kept s 0
unfolding clock_with after last_seek
no_orders kept s took turned last uses = record {
  took = omega (arith, took);
  last = last;
  shares = λ word sector on_drum on_track.
      let own : turns_at kept.turned word (sector_of word) ≡ 0 = rw turned (no_turns_at word (sector_of word) on_drum (omega arith)) in
      let there : turns_at kept.turned word sector ≡ 0 = rw turned (no_turns_at word sector on_drum on_track) in
      let own_wait : wait_of kept.last word (sector_of word) ≡ 0 = ap (λ (l : Option Seek). wait_of l word (sector_of word)) last in
      let there_wait : wait_of kept.last word sector ≡ 0 = ap (λ (l : Option Seek). wait_of l word sector) last in
      omega (arith, own, there, own_wait, there_wait);
  uses = rw uses (no_uses_at s);
}

pub optimum_more : (old new : Kept) (s : State) (count : ℕ) → IsOptimumOf old s count → is_at_rest (after s count).core.panel.status ≡ false
    → new.took ≡ old.took + all_phases (phases_of (after s count))
    → ((word sector : ℕ) → word < 4096 → sector < 64 → turns_at new.turned word sector ≡ turns_at old.turned word sector + one_turn_if (is_last_late old.last (place_of (after s count)) word sector))
    → new.last ≡ seek_of (after s count) → AreUsesOf new.uses s (count + 1) → IsOptimumOf new s (count + 1)
unfolding after last_seek
optimum_more old new s count h works took turns last uses =
    let number : count + 1 ≡ suc count = omega arith in
    record {
      took = rw number (omega (arith, took, h.took, phases_cost (after s count)));
      last = rw number last;
      shares = λ word sector on_drum on_track.
          let before = h.shares word sector on_drum on_track in
          let more = shares_more s count works old.last h.last word sector (turns_at old.turned word sector) (turns_at old.turned word (sector_of word)) before in
          let own = turns word (sector_of word) on_drum (omega arith) in
          let there = turns word sector on_drum on_track in
          let own_wait : wait_of new.last word (sector_of word) ≡ wait_of (seek_of (after s count)) word (sector_of word) = ap (λ (l : Option Seek). wait_of l word (sector_of word)) last in
          let there_wait : wait_of new.last word sector ≡ wait_of (seek_of (after s count)) word sector = ap (λ (l : Option Seek). wait_of l word sector) last in
          rw number (omega (arith, more, own, there, own_wait, there_wait));
      uses = uses;
    }

pub shows_same : (old new : Kept) (s : State) (count : ℕ) → IsOptimumOf old s count → ShowsSame old new → IsOptimumOf new s count
shows_same old new s count h same = record {
  took = omega (arith, h.took, same.took);
  last = same.last ∙ h.last;
  shares = λ word sector on_drum on_track.
      let before = h.shares word sector on_drum on_track in
      let own = same.turned.each word (sector_of word) on_drum (omega arith) in
      let there = same.turned.each word sector on_drum on_track in
      let own_wait : wait_of new.last word (sector_of word) ≡ wait_of old.last word (sector_of word) = ap (λ (l : Option Seek). wait_of l word (sector_of word)) same.last in
      let there_wait : wait_of new.last word sector ≡ wait_of old.last word sector = ap (λ (l : Option Seek). wait_of l word sector) same.last in
      omega (arith, before, own, there, own_wait, there_wait);
  uses = rw same.uses h.uses;
}

-- ---- what it tells

pub clock_goes_on : (sectors : ℕ → ℕ) (s : State) (count : ℕ) → s.clock ≤ clock_with sectors s count
unfolding clock_with
clock_goes_on sectors s zero = omega arith
clock_goes_on sectors s (suc count) = omega (arith, clock_goes_on sectors s count)

pub times_took : (kept : Kept) (s : State) (count : ℕ) → IsOptimumOf kept s count → (word sector : ℕ) → word < 4096 → sector < 64
    → times_at kept word sector ≡ took_with s count word sector
times_took kept s count h word sector on_drum on_track =
    omega (arith, h.shares word sector on_drum on_track, h.took, clock_goes_on (moved word sector) s count)

pub freedom_reported : (kept : Kept) (s : State) (count word : ℕ) → IsOptimumOf kept s count → word < 4096
    → (let used = use_at kept.uses word in freedom used.named used.performed used.by_other) ≡ freedom_of s count word
freedom_reported kept s count word h on_drum = ap (λ (u : Use). freedom u.named u.performed u.by_other) (h.uses.each word on_drum)

pub took_within : (kept : Kept) (first now : State) (count : ℕ) → IsOptimumOf kept first count → now ≡ after first count → kept.took ≤ now.clock
took_within kept first now count h is = omega (arith, h.took, ap (λ (s : State). s.clock) is)

none_counts : (took at : ℕ) → slice_index no_turns.counts at ≤ took
unfolding no_turns
none_counts took at = elim (cases_lt at 64) [
  | inl on_track ↦
      let blank : slice_index (replicate 64 0) at ≡ 0 = get_or-replicate 64 at 0 0 on_track in
      omega (arith, blank)
  | inr past ↦
      let blank : slice_index (replicate 64 0) at ≡ 0 = get_or_past (replicate 64 0) at 0 past in
      omega (arith, blank)
]

-- no count, and so none above any number
pub few_counts : (turned : Turned) (took at : ℕ) → turned ≡ no_turns → slice_index turned.counts at ≤ took
few_counts turned took at none = subst (λ (t : Turned). slice_index t.counts at ≤ took) (sym none) (none_counts took at)
