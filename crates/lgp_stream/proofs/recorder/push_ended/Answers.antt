use Rattle.std.proofs.Common.{arith}
use Rattle.std.proofs.lemmas.Grind.{common_steps}
use Rattle.lgp_stream.specs.Transcript.{ended}
use Rattle.lgp_stream.proofs.recorder.push_ended.Goals as goal

pub returns-then-ends_with : goal.returns-then-ends_with
unfolding ended
returns-then-ends_with g c = grind (arith, common_steps)
