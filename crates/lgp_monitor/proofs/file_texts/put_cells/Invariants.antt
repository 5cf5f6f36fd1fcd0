use Rattle.std.proofs.Common.{◌≡◌, drop, map}
use Rattle.lgp_stream.specs.Transcript.{after_lines}
use Rattle.lgp_script.specs.Script.{script_language}
use Rattle.lgp_monitor.specs.FileTexts.{put_cell}
use Rattle.lgp_monitor.proofs.file_texts.put_cells.Given as goal

abbrev pub invariant-loop-cell : goal.invariant-loop-cell
invariant-loop-cell g l = after_lines script_language l.recorder (map put_cell (drop l.cell-index l.cells)) ≡ after_lines script_language l.fn.recorder (map put_cell l.cells)
