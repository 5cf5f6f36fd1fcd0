use Rattle.std.proofs.Common.{rules, arith, ◌≡◌, ◌+◌, ◌/◌, ◌^◌, ◌++◌, ◌∷◌, []}
use Rattle.lgp_monitor.proofs.Decimals.{next-digit, no-room, none-left}
use Rattle.lgp_monitor.proofs.scaled.push_decimals.Goals as goal

pub loop-more-preserved : goal.loop-more-preserved
loop-more-preserved g c =
    let digit : c.push.new.self.items ≡ c.loop-more.text.items ++ (48 + c.loop-more.rest / 10 ^ 9) ∷ [] = search rules in
    (rw digit (next-digit _ _ _ _ (search rules) (search rules) c.loop-more.invariant.0), omega arith)

pub returns-else-rest-gt0 : goal.returns-else-rest-gt0
returns-else-rest-gt0 g c = none-left c.loop-more.text.items _ c.loop-more.more c.loop-more.rest (search rules) c.loop-more.invariant.0

pub returns-after-loop-more : goal.returns-after-loop-more
returns-after-loop-more g c = no-room _ _ _ _ (search rules) c.loop-more.invariant.0
