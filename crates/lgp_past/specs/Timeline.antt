-- Part of the public promise: a debugger with its whole past.
use Rattle.std.specs.Prelude.{ℕ, []}
use Rattle.lgp_word.specs.Drum.{blank_words}
use Rattle.lgp_table.specs.State.{opening}
use Rattle.lgp_debugger.specs.Debugging.{Debugging, after_step}
use Rattle.lgp_history.specs.Step.{Step}
use Rattle.lgp_past.specs.Past.{Story, state_at, story_until, with_event}

pub record Timeline : Type 0 where
  pub debugger : Debugging
  pub story : Story

-- a step of the operator is done, kept and noted
abbrev pub after_noted : Timeline → Step → Timeline
after_noted t step = record {
  debugger = after_step t.debugger step;
  story = with_event t.story step;
}

-- at the beginning of the order of a number: no step is kept, and what came after it is forgotten
abbrev pub at_order : Timeline → ℕ → Timeline
at_order t order = record {
  debugger = record t.debugger { state = state_at t.story order; steps = [] };
  story = story_until t.story order;
}

-- a new machine, with no step kept and nothing done
abbrev pub opened : ℕ → Timeline
opened capacity = record {
  debugger = record { state = opening blank_words; steps = []; capacity = capacity; rules = [] };
  story = record { first = opening blank_words; events = []; orders = 0 };
}
