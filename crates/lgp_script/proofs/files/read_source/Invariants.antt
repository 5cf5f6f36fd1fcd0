use Rattle.lgp_script.specs.FilesInside.{HasGathered}
use Rattle.lgp_script.proofs.files.read_source.Given as goal

abbrev pub invariant-reads : goal.invariant-reads
invariant-reads g l = HasGathered (g.R.Feed.remaining l.fn.reader) (g.R.Feed.remaining l.reader) l.source

abbrev pub decreases-reads : goal.decreases-reads
decreases-reads g l = g.R.Feed.reads l.reader
