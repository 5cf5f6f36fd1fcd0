-- Serves proofs only: what a load needs so that it goes through, and what a drum is after it.
use Rattle.std.specs.Prelude.{◌≡◌, ℕ, ◌<◌, ◌≤◌, false, List, None, length}
use Rattle.lgp_flexo.specs.TapeText.{tape_limit}
use Rattle.lgp_table.specs.State.{State}
use Rattle.lgp_table.specs.Activity.{print_of}
use Rattle.lgp_table.specs.After.{after}
use Rattle.lgp_table.specs.Console.{is_at_rest}
use Rattle.lgp_loader.specs.LoadedOver.{IsLoadedOver}
use Rattle.lgp_loader.specs.Loading.{IsLoader, TapeLoad, begun, loaded}

-- its loader fits, its tape can be mounted, and each of its orders is at work and prints nothing
pub record IsReady (s : State) (load : TapeLoad) : Type 0 where
  pub fits : IsLoader load.loader
  pub short : length load.codes ≤ tape_limit
  pub some : 0 < load.orders
  pub work : (before : ℕ) → before < load.orders
      → is_at_rest (after (begun s load) before).core.panel.status ≡ false
  pub silent : (before : ℕ) → before < load.orders
      → print_of (after (begun s load) before).core ≡ None

-- from whatever state
abbrev pub GoesThrough : TapeLoad → Type 0
GoesThrough load = (s : State) → length s.core.words ≡ 4096 → IsReady s load

-- from whatever state it leaves a program's words over what was there
abbrev pub LeavesProgram : TapeLoad → List (ℕ × ℕ) → Type 0
LeavesProgram load cells =
    (s : State) → length s.core.words ≡ 4096
    → IsLoadedOver (length load.loader) s.core.words (loaded s load).core.words cells
