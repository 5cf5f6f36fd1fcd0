-- Part of the public promise: the forms of commands.
use Rattle.std.specs.Prelude.{ℕ, if◌then◌else◌, List, ◌++◌, codes, flat_map}
use Rattle.lgp_monitor.specs.Verbs.{only_asks, operands_form, operands_kind, verb_names}
use Rattle.lgp_monitor.specs.declared.verb.Verb.{Verb}

unfoldable pub form_line : List ℕ → Verb → List ℕ
form_line name verb = name ++ (operands_form verb ++ codes "\n")

-- the forms of all commands, a line each
unfoldable pub help_text : List ℕ
help_text = flat_map (λ name. form_line name.0 name.1) verb_names

-- a command, whether it only asks or does something, and what its operands are
unfoldable pub command_line : List ℕ → Verb → List ℕ
command_line name verb =
    name ++ ((if only_asks verb then codes " asks" else codes " does") ++ operands_kind verb)

unfoldable pub commands_text : List ℕ
commands_text = flat_map (λ name. command_line name.0 name.1) verb_names
