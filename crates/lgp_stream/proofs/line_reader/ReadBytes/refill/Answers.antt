use Rattle.lgp_stream.proofs.ReadingLemmas.{same-read}
use Rattle.lgp_stream.proofs.line_reader.ReadBytes.refill.Goals as goal

pub returns-clause-kept : goal.returns-clause-kept
returns-clause-kept g c = same-read _ _ _ _ c.requires c.in_ok-self-inside.ensures.bytes.0
