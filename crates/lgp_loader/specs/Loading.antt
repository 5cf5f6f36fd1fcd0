-- Part of the public promise. Loading: a loader is keyed in, a tape mounted, the loader started,
-- and a given number of orders performed.
use Rattle.std.specs.Prelude.{ℕ, ◌+◌, ◌<◌, ◌≤◌, ◌++◌, false, List, ◌∷◌, [], Option, None, Some}
use Rattle.std.specs.Prelude.{find, fold, length, map, slice_set, sum_by, unwrap_or}
use Rattle.std.specs.List.{All, range_with_len}
use Rattle.lgp_word.specs.Word.{IsWord}
use Rattle.lgp_flexo.specs.Tape.{Tape}
use Rattle.lgp_table.specs.State.{State}
use Rattle.lgp_table.specs.Activity.{cost}
use Rattle.lgp_table.specs.After.{after}
use Rattle.lgp_table.specs.Interleaving.{after_mount}
use Rattle.lgp_table.specs.declared.panel.Panel.{Panel}
use Rattle.lgp_table.specs.declared.panel.Cause.TheVariants.{Stop}
use Rattle.lgp_table.specs.declared.panel.Mode.TheVariants.{Normal}
use Rattle.lgp_table.specs.declared.panel.Status.{Status}
use Rattle.lgp_table.specs.declared.panel.Status.TheVariants.{Halted, Going}
use Rattle.lgp_machine.specs.Answers.{passes_clock_end}
use Rattle.lgp_keyin.specs.KeyIn.{about_to_jump, keyed, started}
use Rattle.lgp_keyin.specs.Keyed.{before_store}
use Rattle.lgp_loader.specs.LoaderTape.{end_word}
use Rattle.lgp_assembler.specs.Parts.{loader_base}

-- a loader's words, a tape that it reads, and how many orders that takes
pub record TapeLoad : Type 0 where
  pub loader : List ℕ
  pub codes : List ℕ
  pub orders : ℕ

-- a load by its parts
abbrev pub load_with : List ℕ → List ℕ → ℕ → TapeLoad
load_with loader codes orders = record { loader = loader; codes = codes; orders = orders }

-- words that fit on the drum from a loader's first place on
abbrev pub IsLoader : List ℕ → Type 0
IsLoader words = All IsWord words × (0 < length words) × (loader_base + length words ≤ 4096)

-- ---- a load, in four steps: key in, mount, start, perform

-- the loader keyed in from its first place on, and then the tape mounted
abbrev pub prepared : State → TapeLoad → State
prepared s load = after_mount (keyed s loader_base load.loader) load.codes

-- then the loader started there
abbrev pub begun : State → TapeLoad → State
begun s load = started (prepared s load) loader_base

-- and then as many orders performed as the tape takes to be read
abbrev pub loaded : State → TapeLoad → State
loaded s load = after (begun s load) load.orders

-- the drum with each cell's word at its place
abbrev pub overlay : List ℕ → List (ℕ × ℕ) → List ℕ
overlay words cells = fold (λ words cell. slice_set words cell.0 cell.1) words cells

-- where the end word, performed in this cell, leaves the counter, and the machine
abbrev pub counter_after_load : ℕ → Option ℕ → ℕ
counter_after_load end_cell start = unwrap_or start (end_cell + 1)

abbrev pub status_after_load : Option ℕ → Status
status_after_load None = Halted Stop
status_after_load (Some start) = Going

abbrev pub panel_after_load : Panel → ℕ → Option ℕ → Panel
panel_after_load panel end_cell start = record {
  counter = counter_after_load end_cell start;
  accumulator = end_word start;
  register = end_word start;
  status = status_after_load start;
  mode = Normal;
  switches = record panel.switches { six_bit = false };
}

-- a tape that has been read to its end
abbrev pub read_tape : List ℕ → Tape
read_tape codes = record { on = false; passed = codes; left = [] }

-- the states in which words are about to be stored, and those in which a given number of activities
-- begin, one after another
unfoldable pub store_states : State → ℕ → List ℕ → List State
store_states s base words = map (before_store s base words) (range_with_len 0 (length words))

unfoldable pub order_states : State → ℕ → List State
order_states s count = map (after s) (range_with_len 0 count)

-- the states in which the activities of loading begin: the stores of the loader's words, the jump
-- that starts it, its orders
abbrev pub loading_states : State → TapeLoad → List State
loading_states s load =
    store_states s loader_base load.loader
    ++ (about_to_jump (prepared s load) loader_base ∷ order_states (begun s load) load.orders)

-- what all these activities cost
unfoldable pub loading_cost : State → TapeLoad → ℕ
loading_cost s load = sum_by cost (loading_states s load)

-- where loading meets the end of the clock: in the first of these states whose activity would pass
-- it; None where there is none
unfoldable pub loading_stopped : State → TapeLoad → Option State
loading_stopped s load = find passes_clock_end (loading_states s load)
