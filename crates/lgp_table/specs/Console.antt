-- Part of the public promise. The console (Operations Manual, "The control panel"): what each
-- action does. When an action is live is this project's own choice; a dead action changes nothing.
use Rattle.std.specs.Prelude.{ℕ, ◌&&◌, Bool, true, false, not, if◌then◌else◌}
use Rattle.lgp_word.specs.Word.{stored}
use Rattle.lgp_flexo.specs.Code.{is_stop, is_skipped}
use Rattle.lgp_flexo.specs.Input.{accumulator_after}
use Rattle.lgp_flexo.specs.Tape.{Tape}
use Rattle.lgp_table.specs.Activity.{resume}
use Rattle.lgp_table.specs.declared.action.Action.{Action}
use Rattle.lgp_table.specs.declared.action.Action.TheVariants as actions
use Rattle.lgp_table.specs.declared.panel.Panel.{Panel}
use Rattle.lgp_table.specs.declared.panel.Switches.{Switches}
use Rattle.lgp_table.specs.declared.panel.Which.{Which}
use Rattle.lgp_table.specs.declared.panel.Which.TheVariants.{B32, B16, B8, B4}
use Rattle.lgp_table.specs.declared.panel.Mode.{Mode}
use Rattle.lgp_table.specs.declared.panel.Mode.TheVariants.{Normal, OneOperation, Manual}
use Rattle.lgp_table.specs.declared.panel.Status.{Status}
use Rattle.lgp_table.specs.declared.panel.Status.TheVariants.{Halted, Going, Executing, Waiting}
use Rattle.lgp_table.specs.declared.panel.Status.TheVariants.{Reading}
use Rattle.lgp_table.specs.declared.panel.Cause.TheVariants.{Operator}

-- what the console acts on
pub record Console : Type 0 where
  pub panel : Panel
  pub tape : Tape

abbrev pub is_halted : Status → Bool
is_halted (Halted cause) = true
is_halted _ = false

abbrev pub is_waiting : Status → Bool
is_waiting Waiting = true
is_waiting _ = false

-- Halted or Waiting
abbrev pub is_at_rest : Status → Bool
is_at_rest (Halted cause) = true
is_at_rest Waiting = true
is_at_rest _ = false

abbrev pub is_manual : Mode → Bool
is_manual Manual = true
is_manual _ = false

abbrev pub is_one_operation : Mode → Bool
is_one_operation OneOperation = true
is_one_operation _ = false

-- whether the operator may send codes: an input waits for them, or the machine has halted in Manual
abbrev pub takes_codes : Status → Mode → Bool
takes_codes (Halted cause) mode = is_manual mode
takes_codes Waiting mode = true
takes_codes _ mode = false

-- whether a key is live: a skipped code never is, the conditional stop only where an input waits
abbrev pub key_is_live : Panel → ℕ → Bool
key_is_live panel code =
    if is_stop code
    then is_waiting panel.status else takes_codes panel.status panel.mode && not (is_skipped code)

-- whether an action is live
abbrev pub is_live : Panel → Action → Bool
is_live panel (actions.Mode mode) = true
is_live panel actions.Start = is_halted panel.status && not (is_manual panel.mode)
is_live panel actions.ClearCounter = is_halted panel.status
is_live panel actions.Fill = is_halted panel.status
is_live panel actions.Execute = is_halted panel.status && is_one_operation panel.mode
is_live panel (actions.Key code) = key_is_live panel code
is_live panel actions.StartCompute = is_waiting panel.status
is_live panel actions.StartRead = takes_codes panel.status panel.mode
is_live panel (actions.BreakPoint which down) = true
is_live panel (actions.Transfer down) = true
is_live panel (actions.SixBit down) = true

-- the status after a mode button: OneOperation stops a going machine, Manual any that has not
-- halted
abbrev pub status_in_mode : Mode → Status → Status
status_in_mode Normal status = status
status_in_mode OneOperation Going = Halted Operator
status_in_mode OneOperation status = status
status_in_mode Manual (Halted cause) = Halted cause
status_in_mode Manual _ = Halted Operator

abbrev pub with_break_point : Switches → Which → Bool → Switches
with_break_point switches B32 down = record switches { b32 = down }
with_break_point switches B16 down = record switches { b16 = down }
with_break_point switches B8 down = record switches { b8 = down }
with_break_point switches B4 down = record switches { b4 = down }

-- a key struck: the conditional stop ends the input, any other code enters
abbrev pub after_key : Panel → ℕ → Panel
after_key panel code = record panel {
  accumulator =
      if is_stop code
      then panel.accumulator else accumulator_after panel.switches.six_bit panel.accumulator code;
  status = if is_stop code then resume panel.mode else panel.status;
}

-- what a live action does
abbrev pub effect_on : Console → Action → Console
effect_on console (actions.Mode mode) = record console {
  panel = record console.panel { mode = mode; status = status_in_mode mode console.panel.status };
}
effect_on console actions.Start = record console { panel = record console.panel { status = Going } }
effect_on console actions.ClearCounter =
    record console { panel = record console.panel { counter = 0 } }
effect_on console actions.Fill =
    record console { panel = record console.panel { register = stored console.panel.accumulator } }
effect_on console actions.Execute =
    record console { panel = record console.panel { status = Executing } }
effect_on console (actions.Key code) = record console { panel = after_key console.panel code }
effect_on console actions.StartCompute =
    record console { panel = record console.panel { status = resume console.panel.mode } }
effect_on console actions.StartRead =
    record {
      panel = record console.panel { status = Reading };
      tape = record console.tape { on = true };
    }
effect_on console (actions.BreakPoint which down) = record console {
  panel = record console.panel { switches = with_break_point console.panel.switches which down };
}
effect_on console (actions.Transfer down) = record console {
  panel = record console.panel { switches = record console.panel.switches { transfer = down } };
}
effect_on console (actions.SixBit down) = record console {
  panel = record console.panel { switches = record console.panel.switches { six_bit = down } };
}

-- what an action does: nothing where it is dead
abbrev pub console_after : Console → Action → Console
console_after console action =
    if is_live console.panel action then effect_on console action else console
