-- Serves proofs only: how turns are counted.
use Rattle.std.specs.Prelude.{◌≡◌, ℕ, ◌+◌, ◌<◌, ◌==◌, ◌&&◌, Bool, false, nat_le, if◌then◌else◌}
use Rattle.std.specs.Prelude.{Option, Some, None, replicate}
use Rattle.lgp_word.specs.Address.{sector_of}
use Rattle.lgp_table.specs.Wait.{wait}
use Rattle.lgp_optimum.specs.OptimumKept.{Turned, turns_at}
use Rattle.lgp_optimum.specs.declared.optimum.Seek.{Seek}

-- no row but the one of no word
unfoldable pub no_turns : Turned
no_turns = record { rows = replicate 4096 0; counts = replicate 64 0 }

-- whether a word at a sector is read too late for the next order, which is read as soon as these
-- word times have passed since the wait began, or whole turns later
abbrev pub is_late : ℕ → ℕ → ℕ → Bool
is_late room begun sector = nat_le room (wait sector begun)

-- the same of the last order, where it waited for this word and the next one is on the drum
abbrev pub is_last_late : Option Seek → Option ℕ → ℕ → ℕ → Bool
is_last_late None place word sector = false
is_last_late (Some seek) None word sector = false
is_last_late (Some seek) (Some place) word sector =
    (seek.word == word)
    && is_late (wait (sector_of place) (seek.begun + seek.act)) seek.begun sector

abbrev pub one_turn_if : Bool → ℕ
one_turn_if late = if late then 1 else 0

-- the same turns, whichever words have a row
pub record SameTurns (old new : Turned) : Type 0 where
  pub each : (word sector : ℕ) → word < 4096 → sector < 64
      → turns_at new word sector ≡ turns_at old word sector
