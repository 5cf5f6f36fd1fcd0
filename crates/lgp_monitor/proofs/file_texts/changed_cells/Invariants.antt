use Rattle.std.proofs.Common.{◌≡◌, ◌++◌, ◌<◌, drop, length}
use Rattle.lgp_monitor.specs.FileTexts.{changed_cells}
use Rattle.lgp_monitor.proofs.file_texts.changed_cells.Given as goal

abbrev pub invariant-loop-number : goal.invariant-loop-number
invariant-loop-number g l = record {
  before : 0 < l.number → length l.machine.state.core.words ≡ 4096;
  after : 0 < l.number → length l.drum ≡ 4096;
  cells : l.cells.items ++ changed_cells l.number (drop l.number l.machine.state.core.words) (drop l.number l.drum) ≡ changed_cells 0 l.machine.state.core.words l.drum;
}
