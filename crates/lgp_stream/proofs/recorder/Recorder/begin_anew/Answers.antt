use Rattle.std.proofs.Common.{rules}
use Rattle.lgp_stream.proofs.recorder.Recorder.begin_anew.Goals as goal

pub returns : goal.returns
returns g c = search rules
