use Rattle.std.proofs.Common.{◌-◌, ◌≤◌, length}
use Rattle.lgp_desk.specs.Files.{AreReads, ByCalls, file_limit}
use Rattle.lgp_desk.proofs.files.read_whole.Given as goal

abbrev pub invariant-reads : goal.invariant-reads
invariant-reads g l = ByCalls g.F.Files.answer l.fn.files l.files (λ calls. AreReads calls l.text.items) × (length l.text.items ≤ file_limit)

abbrev pub decreases-reads : goal.decreases-reads
decreases-reads g l = file_limit - length l.text.items
