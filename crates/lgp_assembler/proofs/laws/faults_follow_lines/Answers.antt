use Rattle.lgp_assembler.proofs.FaultLaws.{faults_law}
use Rattle.lgp_assembler.proofs.laws.faults_follow_lines.Goals as goal

pub returns : goal.returns
returns c = faults_law
