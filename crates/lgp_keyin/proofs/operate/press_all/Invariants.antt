use Rattle.std.proofs.Common.{◌≡◌, take}
use Rattle.lgp_table.specs.Interleaving.{after_actions, at_boundary}
use Rattle.lgp_keyin.proofs.operate.press_all.Given as goal

abbrev pub invariant-loop-action : goal.invariant-loop-action
invariant-loop-action g l =
    let first = g.M.Operate.configuration l.fn.machine in
    g.M.Operate.configuration l.machine ≡ at_boundary (after_actions first.state (take l.action-index l.actions))
