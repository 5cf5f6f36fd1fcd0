use Rattle.std.proofs.Common.{◌≡◌, ◌++◌, drop, flat_map}
use Rattle.lgp_text.specs.NamedValues.{pairs_of}
use Rattle.lgp_monitor.specs.Forms.{command_line}
use Rattle.lgp_monitor.proofs.form.push_command_lines.Given as goal

abbrev pub invariant-loop-name : goal.invariant-loop-name
invariant-loop-name g l = l.text.items ++ flat_map (λ name. command_line name.0 name.1) (pairs_of (drop l.name-index l.names)) ≡ l.fn.text.items ++ flat_map (λ name. command_line name.0 name.1) (pairs_of l.names)
