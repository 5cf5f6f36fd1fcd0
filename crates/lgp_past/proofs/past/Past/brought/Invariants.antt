use Rattle.std.proofs.Common.{◌+◌, take}
use Rattle.lgp_past.specs.Past.{orders_before}
use Rattle.lgp_past.proofs.PastLemmas.{IsAmid}
use Rattle.lgp_past.proofs.past.Past.brought.Given as goal

abbrev pub invariant-loop-index : goal.invariant-loop-index
invariant-loop-index g l =
    IsAmid l.self.story.first l.self.story.events l.self.story.orders
    (orders_before (take l.place l.self.story.events) + l.left) l.index l.done l.machine
