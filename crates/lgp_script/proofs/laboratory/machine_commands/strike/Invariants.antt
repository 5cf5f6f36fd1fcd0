use Rattle.std.proofs.Common.{◌≡◌, ◌+◌, drop, fold}
use Rattle.lgp_script.specs.MachineCommands.{StruckKeys, key_struck}
use Rattle.lgp_script.proofs.laboratory.machine_commands.strike.Given as goal

abbrev pub invariant-loop-key : goal.invariant-loop-key
invariant-loop-key g l =
    let now : StruckKeys = record { live = l.live; dead = l.dead; after = l.debugger } in
    let first : StruckKeys = record { live = 0; dead = 0; after = l.fn.debugger } in
    record {
      struck : fold key_struck now (drop l.key-index l.keys) ≡ fold key_struck first l.keys;
      count : l.live + l.dead ≡ l.key-index;
    }
