use Rattle.std.proofs.Common.{◌≡◌, ◌++◌, drop}
use Rattle.lgp_script.specs.SourceCommands.{faults_text}
use Rattle.lgp_script.proofs.laboratory.source_commands.push_faults.Given as goal

abbrev pub invariant-loop-fault : goal.invariant-loop-fault
invariant-loop-fault g l = l.text.items ++ faults_text (drop l.fault-index l.faults) ≡ l.fn.text.items ++ faults_text l.faults
