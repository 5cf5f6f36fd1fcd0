use Rattle.std.proofs.Common.{◌≡◌, ◌++◌, drop, flat_map}
use Rattle.lgp_source.specs.Source.{lines_of}
use Rattle.lgp_monitor.specs.Closing.{marked_fault}
use Rattle.lgp_monitor.proofs.closing.push_marked_faults.Given as goal

abbrev pub invariant-loop-fault : goal.invariant-loop-fault
invariant-loop-fault g l = record {
  found_in : l.lines.all ≡ lines_of l.source;
  so_far : l.text.items ++ flat_map (marked_fault (lines_of l.source)) (drop l.fault-index l.faults)
      ≡ l.fn.text.items ++ flat_map (marked_fault (lines_of l.source)) l.faults;
}
