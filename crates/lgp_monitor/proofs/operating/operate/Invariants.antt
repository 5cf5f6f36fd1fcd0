use Rattle.std.proofs.Common.{◌≡◌, ◌≤◌, ◌-◌, None}
use Rattle.lgp_stream.specs.Transcript.{after_lines}
use Rattle.lgp_script.specs.Script.{script_language}
use Rattle.lgp_monitor.specs.Operating.{operated}
use Rattle.lgp_monitor.proofs.OperatingLemmas.{IsOperated}
use Rattle.lgp_monitor.proofs.operating.operate.Given as goal

abbrev pub invariant-loop-starts : goal.invariant-loop-starts
invariant-loop-starts g l = record {
  few : l.starts ≤ l.fn.limit;
  outside : l.recorder.state.opened ≡ None;
  so_far : IsOperated l.fn.limit l.recorder l.said (l.fn.limit - l.starts) l.starts
      (after_lines script_language l.fn.recorder (operated l.fn.limit l.fn.recorder.state).lines)
      (operated l.fn.limit l.fn.recorder.state);
}

abbrev pub decreases-loop-starts : goal.decreases-loop-starts
decreases-loop-starts g l = l.fn.limit - l.starts
