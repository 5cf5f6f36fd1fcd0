use Rattle.lgp_desk.proofs.TranscriptLaws.{reported_in_session}
use Rattle.lgp_desk.proofs.laws.transcript_at_a_desk_is_the_script.Goals as goal

pub returns : goal.returns
returns g c = λ manner told typed sayable. reported_in_session manner told typed sayable
