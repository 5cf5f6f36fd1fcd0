use Rattle.lgp_stream.proofs.LineLaws.{reported_by_transcript}
use Rattle.lgp_stream.proofs.laws.transcript_tells_all.Goals as goal

pub returns : goal.returns
returns g c = λ language opening meaning typed has stand text. reported_by_transcript _ _ _ typed has stand text
