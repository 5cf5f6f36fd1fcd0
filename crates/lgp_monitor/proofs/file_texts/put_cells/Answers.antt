use Rattle.std.proofs.Common.{ap, arith, map}
use Rattle.lgp_stream.specs.Transcript.{after_lines}
use Rattle.lgp_script.specs.Script.{script_language}
use Rattle.lgp_monitor.specs.FileTexts.{put_cell}
use Rattle.lgp_monitor.proofs.RestoreLemmas.{put_all, put_more}
use Rattle.lgp_monitor.proofs.file_texts.put_cells.Goals as goal

pub loop-cell-preserved : goal.loop-cell-preserved
loop-cell-preserved g c =
    put_more _ _
    _
    _ _ _ _ c.loop-cell-test.true
    (ap put_cell c.cell-item.is) c.in_ok-put_cell.ensures c.loop-cell.invariant

pub returns : goal.returns
returns g c =
    put_all c.loop-cell.recorder
    (after_lines script_language c.args.recorder.now (map put_cell c.args.cells.now))
    c.args.cells.now c.loop-cell.cell-index (omega arith) c.loop-cell.invariant
