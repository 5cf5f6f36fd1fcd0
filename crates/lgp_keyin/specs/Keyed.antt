-- Part of the public promise. What key-in leaves.
use Rattle.std.specs.Prelude.{◌≡◌, ℕ, ◌+◌, ◌<◌, false, List, [], ◌∷◌, length, slice_index}
use Rattle.std.specs.Prelude.{slice_set, take}
use Rattle.lgp_table.specs.State.{State, core_of}
use Rattle.lgp_table.specs.Activity.{cost}
use Rattle.lgp_table.specs.declared.panel.Panel.{Panel}
use Rattle.lgp_table.specs.declared.panel.Cause.TheVariants.{Step}
use Rattle.lgp_table.specs.declared.panel.Mode.TheVariants.{Normal, OneOperation}
use Rattle.lgp_table.specs.declared.panel.Status.TheVariants.{Halted, Going}
use Rattle.lgp_table.specs.Interleaving.{Configuration, at_boundary}
use Rattle.lgp_machine.specs.Answers.{clock_end}
use Rattle.lgp_keyin.specs.KeyIn.{about_to_store, jump_order, keyed, store_order}

-- the drum's words with these from an address on
abbrev pub words_from : List ℕ → ℕ → List ℕ → List ℕ
words_from drum base [] = drum
words_from drum base (word ∷ words) = words_from (slice_set drum base word) (base + 1) words

-- the panel after a word has been stored by hand
abbrev pub panel_after_store : Panel → ℕ → ℕ → Panel
panel_after_store panel address word = record panel {
  accumulator = word;
  register = store_order address;
  status = Halted Step;
  mode = OneOperation;
  switches = record panel.switches { six_bit = false };
}

-- the panel after words have been keyed in: it shows the last of them
abbrev pub panel_after_words : Panel → ℕ → List ℕ → Panel
panel_after_words panel base [] =
    record panel { switches = record panel.switches { six_bit = false } }
panel_after_words panel base (word ∷ words) =
    panel_after_words (panel_after_store panel base word) (base + 1) words

-- a state after words have been keyed in, at some clock
abbrev pub state_after_words : State → ℕ → List ℕ → ℕ → State
state_after_words s base words clock = record {
  core = core_of (panel_after_words s.core.panel base words)
      (words_from s.core.words base words) s.core.tape;
  printed = s.printed;
  clock = clock;
}

-- about to store the word that comes after a given number of others
abbrev pub before_store : State → ℕ → List ℕ → ℕ → State
before_store s base words done =
    about_to_store (keyed s base (take done words)) (base + done) (slice_index words done)

-- the clock after the words have been stored would be past its end
abbrev pub PassesClockEnd : State → ℕ → List ℕ → Type 0
PassesClockEnd s base words = (0 < length words) × (clock_end < (keyed s base words).clock)

-- where key-in meets the end of the clock: a given number of words are stored, and the next store
-- would pass it
abbrev pub EndsBeforeStore : Configuration → State → ℕ → List ℕ → Type 0
EndsBeforeStore now s base words =
    (done : ℕ) × (done < length words) × (now ≡ at_boundary (before_store s base words done))
    × (clock_end < now.state.clock + cost now.state)

-- the panel of a machine that has been set going at an address
abbrev pub started_panel : Panel → ℕ → Panel
started_panel panel address = record panel {
  counter = address;
  accumulator = jump_order address;
  register = jump_order address;
  status = Going;
  mode = Normal;
}

-- a state in which a program has been started, at some clock
abbrev pub state_when_started : State → ℕ → ℕ → State
state_when_started s address clock = record s {
  core = record s.core { panel = started_panel s.core.panel address };
  clock = clock;
}
