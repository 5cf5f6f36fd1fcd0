-- Part of the public promise. What shows at an order boundary.
use Rattle.std.specs.Prelude.{if◌then◌else◌, Option, Some, None}
use Rattle.lgp_table.specs.State.{State}
use Rattle.lgp_table.specs.Interleaving.{Configuration, is_boundary}
use Rattle.lgp_machine.specs.declared.look.Look.{Look}

abbrev pub look_of : State → Look
look_of s = record {
  counter = s.core.panel.counter;
  accumulator = s.core.panel.accumulator;
  register = s.core.panel.register;
  status = s.core.panel.status;
  mode = s.core.panel.mode;
  switches = s.core.panel.switches;
  reader_on = s.core.tape.on;
  clock = s.clock;
}

-- something that shows at a boundary alone
abbrev pub seen_at_boundary : {X : Type 0} → Configuration → X → Option X
seen_at_boundary now x = if is_boundary now then Some x else None
