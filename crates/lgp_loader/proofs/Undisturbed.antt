-- Hands on the switches while a loader runs.
use Rattle.std.proofs.Common.{◌≡◌, ℕ, ◌<◌, ◌≤◌, false, true, List, Option, length}
use Rattle.std.specs.List.{count_by, list_all}
use Rattle.std.specs.Prelude.{IfSome}
use Rattle.lgp_word.specs.Address.{IsAddress}
use Rattle.lgp_table.specs.State.{State}
use Rattle.lgp_table.specs.After.{after, total_cost}
use Rattle.lgp_table.specs.Interleaving.{after_events, at_boundary}
use Rattle.lgp_table.specs.SwitchPresses.{is_time_or_switch, is_word_time, looks_at_switches, with_switches}
use Rattle.lgp_table.specs.declared.action.Event.{Event}
use Rattle.lgp_table.specs.declared.panel.Switches.{Switches}
use Rattle.lgp_assembler.specs.Parts.{AreProgramCells, ImageParts}
use Rattle.lgp_loader.specs.BlockLoading.{block_load, left_by_blocks}
use Rattle.lgp_loader.specs.Cutting.{are_blocks, cells_of}
use Rattle.lgp_loader.specs.Loading.{begun, loaded}
use Rattle.lgp_loader.specs.SingleLoading.{single_load}
use Rattle.lgp_loader.proofs.Begun.{calm_in_run, undisturbed_run}
use Rattle.lgp_loader.proofs.BlockLaw.{blocks_run}
use Rattle.lgp_loader.proofs.SingleLaw.{single_runs}

pub blocks_undisturbed : (s : State) (blocks : List (List (ℕ × ℕ))) (start : Option ℕ) (events : List Event) → length s.core.words ≡ 4096
    → are_blocks blocks ≡ true → AreProgramCells (cells_of blocks) → length (cells_of blocks) ≤ 4096 → IfSome start IsAddress
    → list_all is_time_or_switch events ≡ true
    → count_by is_word_time events ≡ total_cost (begun s (block_load blocks start)) (block_load blocks start).orders
    → (switches : Switches) × (after_events (at_boundary (begun s (block_load blocks start))) events ≡ at_boundary (with_switches (loaded s (block_load blocks start)) switches))
blocks_undisturbed s blocks start events long are program few is such times =
    undisturbed_run s _ (left_by_blocks s blocks start 0).core events (blocks_run s blocks _ long are program few is) such times

pub single_undisturbed : (s : State) (image : ImageParts) (events : List Event)
    → length s.core.words ≡ 4096 → AreProgramCells image.cells → IfSome image.start IsAddress
    → list_all is_time_or_switch events ≡ true
    → count_by is_word_time events ≡ total_cost (begun s (single_load image)) (single_load image).orders
    → (switches : Switches) × (after_events (at_boundary (begun s (single_load image))) events ≡ at_boundary (with_switches (loaded s (single_load image)) switches))
single_undisturbed s image events long are is such times =
    undisturbed_run s _ _ events (single_runs s _ long are is) such times

-- no order of theirs looks at them
pub blocks_blind : (s : State) (blocks : List (List (ℕ × ℕ))) (start : Option ℕ) (before : ℕ) → length s.core.words ≡ 4096
    → are_blocks blocks ≡ true → AreProgramCells (cells_of blocks) → length (cells_of blocks) ≤ 4096 → IfSome start IsAddress
    → before < (block_load blocks start).orders → looks_at_switches (after (begun s (block_load blocks start)) before) ≡ false
blocks_blind s blocks start before long are program few is less =
    let calm = calm_in_run s _ (left_by_blocks s blocks start 0).core (blocks_run s blocks _ long are program few is) _ less in
    calm.blind

pub single_blind : (s : State) (image : ImageParts) (before : ℕ) → length s.core.words ≡ 4096 → AreProgramCells image.cells → IfSome image.start IsAddress
    → before < (single_load image).orders → looks_at_switches (after (begun s (single_load image)) before) ≡ false
single_blind s image before long are is less =
    let calm = calm_in_run s _ _ (single_runs s _ long are is) _ less in
    calm.blind

pub ruleset blind_laws = (blocks_blind, single_blind)

pub ruleset undisturbed_laws = (blocks_undisturbed, single_undisturbed)
