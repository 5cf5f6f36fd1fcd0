use Rattle.std.proofs.Common.{◌≡◌, ◌++◌}
use Rattle.lgp_data.specs.ShowData.{shown_in}
use Rattle.lgp_script.specs.LabState.{labels_of}
use Rattle.lgp_monitor.proofs.data_question.push_show_data.Given as goal

abbrev pub invariant-loop-place : goal.invariant-loop-place
invariant-loop-place g l = l.text.items ≡ l.fn.text.items ++ shown_in l.form (labels_of l.laboratory.source) l.laboratory.debugger l.range.first l.place
