-- Part of the public promise: the task that the matches of a command line hold, and which refusals
-- its faults allow.
use Rattle.std.specs.Prelude.{◌≡◌, ℕ, Bool, true, false, List, [], Option, codes}
use Rattle.std.specs.Prelude.{if◌then◌else◌, unwrap_or}
use Rattle.std.specs.Option.{option_map_or}
use Rattle.std.specs.Str.{bytes_eq}
use Rattle.std.specs.Str.Parse.{digits_value, without_leading_plus}
use Rattle.clap.specs.ValueTests.{is_unsigned_in}
use Rattle.clap.specs.Words.{App, IsAmong, Kinds, Row, Text, all_of, fault_of, first_of, matches_of}
use Rattle.clap.specs.Words.{one_of, subcommand_of, takes}
use Rattle.clap.specs.declared.error.kind.ErrorKind.{ErrorKind}
use Rattle.clap.specs.declared.error.kind.ErrorKind.TheVariants.{DisplayHelp, DisplayVersion}
use Rattle.lgp_task.specs.CommandLine.{command_line, monitor_line}
use Rattle.lgp_task.specs.declared.task.Task.{Task}
use Rattle.lgp_task.specs.declared.task.Task.TheVariants.{Stdin, Asm, Tape, Run, Script, Batch}
use Rattle.lgp_task.specs.declared.task.TaskFault.{TaskFault}
use Rattle.lgp_task.specs.declared.task.TaskFault.TheVariants.{Usage, Help, Memory}

-- the file that the matches of a command hold, and all of its files in the order in which they were
-- typed; none is the empty text, or the empty list
abbrev pub file_in : List Row → Text
file_in rows = unwrap_or (first_of (codes "FILE") rows) []

abbrev pub files_in : List Row → List Text
files_in rows = unwrap_or (all_of (codes "FILE") rows) []

-- the number that a text of decimal digits stands for, below 2^64; any other text stands for 0
abbrev pub number_of : Text → ℕ
number_of text =
    if is_unsigned_in 0 18446744073709551615 text
    then digits_value 10 (without_leading_plus text) else 0

-- the limit that the matches of a command hold; none is 0
abbrev pub limit_in : List Row → ℕ
limit_in rows = option_map_or number_of (one_of (codes "LIMIT") rows) 0

-- the task of the command of this name, from its matches
abbrev pub task_named : {A : Type 0} → Text → List Row → Task A
task_named name rows =
    if bytes_eq name (codes "asm") then Asm (file_in rows)
    else (if bytes_eq name (codes "tape") then Tape (file_in rows)
    else (if bytes_eq name (codes "run") then Run (file_in rows) (limit_in rows)
    else (if bytes_eq name (codes "script") then Script (file_in rows)
    else Batch (files_in rows))))

-- the task of the command that was matched; without one it is the script on standard input
abbrev pub task_in : {A : Type 0} → Option (Text × List Row) → Task A
task_in matched = option_map_or (λ command. task_named command.0 command.1) matched Stdin

-- what the words of the monitor's command line ask for
pub record SessionTask : Type 0 where
  pub files : List Text
  pub is_echoing : Bool
  pub is_json : Bool

-- a fault that asks for a text and is no mistake
abbrev pub is_request : ErrorKind → Bool
is_request DisplayHelp = true
is_request DisplayVersion = true
is_request _ = false

-- a refusal is one for memory, or one of these faults is its cause: a request is answered with
-- help, a mistake with the usage
abbrev pub IsRefusalOf : {A : Type 0} → Kinds → TaskFault A → Type 0
IsRefusalOf kinds (Usage text) = (kind : ErrorKind) × IsAmong kind kinds × (is_request kind ≡ false)
IsRefusalOf kinds (Help text) = (kind : ErrorKind) × IsAmong kind kinds × (is_request kind ≡ true)
IsRefusalOf kinds Memory = Unit {0}

-- words ask for a task where the command line finds no fault in them
abbrev pub AskForTask : List Text → Type 0
AskForTask typed = fault_of command_line typed ≡ []

-- the task that the words of a command line hold, where it takes them
abbrev pub task_for : {A : Type 0} → List Text → Task A
task_for typed = task_in (subcommand_of command_line typed)

-- a refusal that the faults of these words allow; where the command line takes them, it is for want
-- of memory
abbrev pub IsFaultOn : {A : Type 0} → App → List Text → TaskFault A → Type 0
IsFaultOn line typed fault =
    IsRefusalOf (fault_of line typed) fault × (takes line typed ≡ true → fault ≡ Memory)

-- whether a flag is there
abbrev pub has_flag : List ℕ → List Row → Bool
has_flag name rows = bytes_eq (unwrap_or (first_of name rows) []) (codes "true")

-- the files that a session's matches hold, whether each line is shown above its reply, and whether
-- each reply is a value of JSON
abbrev pub session_in : List Row → SessionTask
session_in rows = record {
  files = files_in rows;
  is_echoing = has_flag (codes "echo") rows;
  is_json = has_flag (codes "json") rows;
}

-- the session that the words of the monitor's command line ask for, where it takes them
abbrev pub session_for : List Text → SessionTask
session_for typed = session_in (matches_of monitor_line typed)
