use Rattle.std.proofs.Common.{arith}
use Rattle.lgp_command.proofs.Buttons.{button_found}
use Rattle.lgp_command.proofs.names.button_named.Goals as goal

pub returns-in-Some : goal.returns-in-Some
returns-in-Some c = grind (arith, button_found)
