use Rattle.lgp_script.proofs.SourceLemmas.{HasGathered-more}
use Rattle.lgp_script.proofs.files.read_source.Goals as goal

pub reads-preserved : goal.reads-preserved
reads-preserved g c =
    HasGathered-more _ _ _ c.reads.source c.push_bytes.new.self _ c.reads.invariant c.in-Ok.ensures.bytes.0 c.in-Ok-push_bytes.ensures.ok
