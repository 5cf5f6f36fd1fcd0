-- Part of the public promise. What an `Optimum` keeps of a given number of orders, and what it
-- tells of them.
use Rattle.std.specs.Prelude.{◌≡◌, ◌≢◌, ℕ, zero, suc, ◌+◌, ◌-◌, ◌*◌, ◌%◌, ◌<◌, ◌≤◌, ◌==◌, false}
use Rattle.std.specs.Prelude.{if◌then◌else◌, Option, Some, None, List, length}
use Rattle.std.specs.Prelude.{slice_index, slice_index_or}
use Rattle.lgp_word.specs.Address.{sector_of}
use Rattle.lgp_table.specs.After.{after}
use Rattle.lgp_table.specs.State.{State}
use Rattle.lgp_table.specs.Wait.{wait}
use Rattle.lgp_trace.specs.Account.{found_of}
use Rattle.lgp_optimum.specs.Optimum.{clock_with, is_changed, is_named, is_named_by_other}
use Rattle.lgp_optimum.specs.Optimum.{is_performed, moved}
use Rattle.lgp_trace.specs.Phases.{phases_of}
use Rattle.lgp_trace.specs.declared.account.Found.{Found}
use Rattle.lgp_optimum.specs.declared.optimum.Best.{Best}
use Rattle.lgp_optimum.specs.declared.optimum.Seek.{Seek}
use Rattle.lgp_trace.specs.declared.phases.Phases.{Phases}
use Rattle.lgp_optimum.specs.declared.uses.Use.{Use}

-- ---- turns of the drum, by word and sector

-- the number of the row of each word, 0 for none, and 64 counts a row
pub record Turned : Type 0 where
  pub rows : List ℕ
  pub counts : List ℕ

-- how many turns more than they need the orders that named a word take with it at a sector
abbrev pub turns_at : Turned → ℕ → ℕ → ℕ
turns_at turned word sector = slice_index turned.counts (64 * slice_index turned.rows word + sector)

-- each word without a row shows zeros, and no two words have one row
pub record IsTurned (rows counts : List ℕ) : Type 0 where
  pub words : length rows ≡ 4096
  pub whole : (word : ℕ) → word < 4096 → 64 * slice_index rows word + 64 ≤ length counts
  pub full : length counts % 64 ≡ 0
  pub none : (sector : ℕ) → sector < 64 → slice_index counts sector ≡ 0
  pub apart : (one other : ℕ) → one < 4096 → other < 4096 → 0 < slice_index rows one
      → slice_index rows one ≡ slice_index rows other → one ≡ other

-- ---- the last order

-- the wait of an order for its word, where the word is this one, had it been at a sector
abbrev pub wait_of : Option Seek → ℕ → ℕ → ℕ
wait_of None word sector = 0
wait_of (Some seek) word sector = if seek.word == word then wait sector seek.begun else 0

abbrev pub seek_after : Option Found → ℕ → Phases → Option Seek
seek_after None clock phases = None
seek_after (Some found) clock phases = Some (record {
  word = found.address;
  begun = clock + phases.find + phases.take;
  act = phases.act;
})

-- the wait of the order that begins here
abbrev pub seek_of : State → Option Seek
seek_of now = seek_after (found_of now) now.clock (phases_of now)

-- that of the last one of a given number of orders
unfoldable pub last_seek : State → ℕ → Option Seek
last_seek s zero = None
last_seek s (suc count) = seek_of (after s count)

-- ---- the uses of words

abbrev pub no_use : Use
no_use = record { named = false; performed = false; changed = false; by_other = false }

abbrev pub use_at : List Use → ℕ → Use
use_at uses address = slice_index_or uses address no_use

abbrev pub use_of : State → ℕ → ℕ → Use
use_of s count address = record {
  named = is_named s count address;
  performed = is_performed s count address;
  changed = is_changed s count address;
  by_other = is_named_by_other s count address;
}

-- the uses by a given number of orders from a state on
pub record AreUsesOf (uses : List Use) (s : State) (count : ℕ) : Type 0 where
  pub each : (address : ℕ) → address < 4096 → use_at uses address ≡ use_of s count address

-- ---- all together

-- how long the orders took, the turns, the wait of the last order, and the uses
pub record Kept : Type 0 where
  pub took : ℕ
  pub turned : Turned
  pub last : Option Seek
  pub uses : List Use

-- what the orders take for a word at a sector beyond what they take for any
abbrev pub share : Kept → ℕ → ℕ → ℕ
share kept word sector = 64 * turns_at kept.turned word sector + wait_of kept.last word sector

-- how long the orders would have taken, had a word been at a sector
abbrev pub times_at : Kept → ℕ → ℕ → ℕ
times_at kept word sector =
    kept.took + share kept word sector - share kept word (sector_of word)

-- what is kept of a given number of orders from a state on
pub record IsOptimumOf (kept : Kept) (s : State) (count : ℕ) : Type 0 where
  pub took : s.clock + kept.took ≡ (after s count).clock
  pub last : kept.last ≡ last_seek s count
  pub shares : (word sector : ℕ) → word < 4096 → sector < 64
      → clock_with (moved word sector) s count + share kept word (sector_of word)
      ≡ (after s count).clock + share kept word sector
  pub uses : AreUsesOf kept.uses s count

-- The sector with the least number beside a word's own: none has less; it is the word's own if that
-- has no more, and else the first one of those that have as little.
pub record IsLeast (times : ℕ → ℕ) (own least : ℕ) : Type 0 where
  pub sector : least < 64
  pub none_less : (sector : ℕ) → sector < 64 → times least ≤ times sector
  pub first : (sector : ℕ) → sector < least → least ≢ own → times least < times sector
  pub stays : times least ≡ times own → least ≡ own

-- the best sector of a word by the word times with it at each, and what it saves
pub record IsBest (times : ℕ → ℕ) (own : ℕ) (best : Best) : Type 0 where
  pub least : IsLeast times own best.sector
  pub saved : times best.sector + best.saved ≡ times own
