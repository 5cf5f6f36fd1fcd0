-- Part of the public promise: the command line as `clap` is given it: each command with its
-- arguments, one definition each.
use Rattle.std.specs.Prelude.{ℕ, pos, true, Some, List, [], codes}
use Rattle.clap.specs.Lexer.{usize_max}
use Rattle.clap.specs.Words.{App, Rule, new_app, new_rule, with_rule, with_subcommand}
use Rattle.clap.specs.declared.builder.action.ArgAction.TheVariants.{SetTrue}
use Rattle.clap.specs.declared.builder.value_parser.ValueParser.TheVariants.{Signed}

-- FILE: one file
abbrev pub file_rule : Rule
file_rule = record (new_rule (codes "FILE")) { required = true }

-- [FILE...]: files, or none
abbrev pub any_files_rule : Rule
any_files_rule = record (new_rule (codes "FILE")) {
  range = Some (record { start_inclusive = 1; end_inclusive = usize_max });
}

-- FILE...: one file or more
abbrev pub files_rule : Rule
files_rule = record any_files_rule { required = true }

-- LIMIT: a number from 0 to 4294967295
abbrev pub limit_rule : Rule
limit_rule = record (new_rule (codes "LIMIT")) {
  required = true;
  parser = Some (Signed (pos 0) (pos 4294967295));
}

-- a command of this name, which takes a file
abbrev pub file_command : List ℕ → App
file_command name = with_rule (new_app name) file_rule

abbrev pub run_command : App
run_command = with_rule (file_command (codes "run")) limit_rule

abbrev pub batch_command : App
batch_command = with_rule (new_app (codes "batch")) files_rule

-- a program of this name, which knows its version
abbrev pub bare_line : List ℕ → App
bare_line name = record { top = record (new_app name).top { has_version = true }; subs = [] }

-- the command line: `lgp_lab`, which takes one of the five commands, or none
unfoldable pub command_line : App
command_line =
    with_subcommand (with_subcommand (with_subcommand (with_subcommand (with_subcommand
    (bare_line (codes "lgp_lab"))
    (file_command (codes "asm")).top) (file_command (codes "tape")).top) run_command.top)
    (file_command (codes "script")).top) batch_command.top

-- --echo: there or not
abbrev pub echo_rule : Rule
echo_rule = record (new_rule (codes "echo")) { long = Some (codes "echo"); action = Some SetTrue }

-- --json: there or not
abbrev pub json_rule : Rule
json_rule = record (new_rule (codes "json")) { long = Some (codes "json"); action = Some SetTrue }

-- the monitor's command line: `lgp_monitor`, which takes files, `--echo` and `--json`
unfoldable pub monitor_line : App
monitor_line =
    with_rule (with_rule (with_rule (bare_line (codes "lgp_monitor")) any_files_rule) echo_rule)
    json_rule
