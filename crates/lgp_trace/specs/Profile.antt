-- Part of the public promise. Profiles: the word times of many activities by phase, and by the
-- address of the order.
use Rattle.std.specs.Prelude.{ℕ, zero, suc, ◌+◌, List, Option, Some, None, replicate, slice_index}
use Rattle.std.specs.Prelude.{slice_set, if◌then◌else◌, is_some}
use Rattle.lgp_table.specs.After.{after}
use Rattle.lgp_table.specs.State.{State}
use Rattle.lgp_trace.specs.Account.{place_of}
use Rattle.lgp_trace.specs.Phases.{all_phases, only_act, phases_of}
use Rattle.lgp_trace.specs.declared.phases.Phases.{Phases}

-- the word times by phase, those of the orders that are at each address, and those of all else
pub record Profiled : Type 0 where
  pub phases : Phases
  pub places : List ℕ
  pub elsewhere : ℕ

unfoldable pub no_places : List ℕ
no_places = replicate 4096 0

abbrev pub empty_profile : Profiled
empty_profile = record { phases = only_act 0; places = no_places; elsewhere = 0 }

abbrev pub added_phases : Phases → Phases → Phases
added_phases phases more = record {
  find = phases.find + more.find;
  take = phases.take + more.take;
  seek = phases.seek + more.seek;
  act = phases.act + more.act;
}

abbrev pub added_at : Option ℕ → ℕ → List ℕ → List ℕ
added_at None times places = places
added_at (Some place) times places = slice_set places place (slice_index places place + times)

-- a profile with one activity more, by the place of its order and its phases
abbrev pub with_activity : Profiled → Option ℕ → Phases → Profiled
with_activity profile place phases = record {
  phases = added_phases profile.phases phases;
  places = added_at place (all_phases phases) profile.places;
  elsewhere =
      if is_some place then profile.elsewhere else profile.elsewhere + all_phases phases;
}

-- the profile of a given number of activities from a state on
unfoldable pub profile_of : State → ℕ → Profiled
profile_of s zero = empty_profile
profile_of s (suc count) =
    let now = after s count in with_activity (profile_of s count) (place_of now) (phases_of now)
