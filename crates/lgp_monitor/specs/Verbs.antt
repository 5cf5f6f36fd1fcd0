-- Part of the public promise: the commands of the monitor, each with what comes after its name.
-- Those of the script language are among them, the desk's `quit`, and those that name a file, which
-- the monitor's program takes.
use Rattle.std.specs.Prelude.{ℕ, Bool, true, false, List, [], ◌∷◌, codes}
use Rattle.lgp_fields.specs.declared.records.RecordForm.TheVariants.{Lines}
use Rattle.lgp_monitor.specs.declared.telling.Report.TheVariants as reports
use Rattle.lgp_monitor.specs.declared.verb.AddressCommand.TheVariants as address_commands
use Rattle.lgp_monitor.specs.declared.verb.LoneCommand.TheVariants as lone_commands
use Rattle.lgp_monitor.specs.declared.verb.NumberCommand.TheVariants as number_commands
use Rattle.lgp_monitor.specs.declared.verb.RangeCommand.TheVariants as range_commands
use Rattle.lgp_monitor.specs.declared.verb.Verb.{Verb}
use Rattle.lgp_monitor.specs.declared.verb.Verb.TheVariants as verbs

-- the commands by their first word
abbrev pub verb_names : List (List ℕ × Verb)
verb_names =
    (codes "put", verbs.Word)
    ∷ (codes "go", verbs.Address address_commands.Go)
    ∷ (codes "mount", verbs.Text)
    ∷ (codes "press", verbs.Key)
    ∷ (codes "type", verbs.Text)
    ∷ (codes "turn", verbs.Number number_commands.Script)
    ∷ (codes "orders", verbs.Number number_commands.Script)
    ∷ (codes "run", verbs.Run)
    ∷ (codes "operate", verbs.Number number_commands.Operate)
    ∷ (codes "trace", verbs.Number (number_commands.Trace reports.Columns))
    ∷ (codes "profile", verbs.Number (number_commands.Profile reports.Columns))
    ∷ (codes "drum", verbs.Number number_commands.Drum)
    ∷ (codes "optimum", verbs.NumberAddress reports.Columns)
    ∷ (codes "why", verbs.Address address_commands.Why)
    ∷ (codes "back", verbs.Number number_commands.Script)
    ∷ (codes "last", verbs.Lone lone_commands.Script)
    ∷ (codes "at", verbs.Moment)
    ∷ (codes "to", verbs.To)
    ∷ (codes "panel", verbs.Lone lone_commands.ScriptQuestion)
    ∷ (codes "words", verbs.Range range_commands.Words)
    ∷ (codes "show", verbs.Range range_commands.Show)
    ∷ (codes "numbers", verbs.ScaledRange)
    ∷ (codes "printed", verbs.Lone lone_commands.ScriptQuestion)
    ∷ (codes "paper", verbs.Lone lone_commands.Paper)
    ∷ (codes "dump", verbs.Lone lone_commands.ScriptQuestion)
    ∷ (codes "source", verbs.Source)
    ∷ (codes "do", verbs.File)
    ∷ (codes "tape", verbs.File)
    ∷ (codes "archive", verbs.File)
    ∷ (codes "bytes", verbs.File)
    ∷ (codes "copy", verbs.File)
    ∷ (codes "copy-archive", verbs.File)
    ∷ (codes "copy-bytes", verbs.File)
    ∷ (codes "punch", verbs.File)
    ∷ (codes "punch-archive", verbs.File)
    ∷ (codes "punch-bytes", verbs.File)
    ∷ (codes "save", verbs.File)
    ∷ (codes "save-simh", verbs.File)
    ∷ (codes "restore", verbs.File)
    ∷ (codes "restore-simh", verbs.File)
    ∷ (codes "list", verbs.Lone lone_commands.ScriptQuestion)
    ∷ (codes "load", verbs.Lone lone_commands.Script)
    ∷ (codes "break", verbs.Address address_commands.Break)
    ∷ (codes "watch", verbs.Address address_commands.Watch)
    ∷ (codes "drop", verbs.Number number_commands.Script)
    ∷ (codes "rules", verbs.Lone lone_commands.Rules)
    ∷ (codes "labels", verbs.Lone lone_commands.Labels)
    ∷ (codes "live", verbs.Lone lone_commands.Live)
    ∷ (codes "commands", verbs.Lone lone_commands.Commands)
    ∷ (codes "panel-data", verbs.Lone lone_commands.PanelData)
    ∷ (codes "commands-data", verbs.Lone lone_commands.CommandsData)
    ∷ (codes "operations-data", verbs.Lone lone_commands.OperationsData)
    ∷ (codes "faults-data", verbs.Lone lone_commands.FaultsData)
    ∷ (codes "state-data", verbs.Lone lone_commands.StateData)
    ∷ (codes "show-data", verbs.Range range_commands.ShowData)
    ∷ (codes "why-data", verbs.Address address_commands.WhyData)
    ∷ (codes "labels-data", verbs.Lone lone_commands.LabelsData)
    ∷ (codes "rules-data", verbs.Lone lone_commands.RulesData)
    ∷ (codes "paper-data", verbs.Number number_commands.PaperData)
    ∷ (codes "tape-data", verbs.Lone lone_commands.TapeData)
    ∷ (codes "source-data", verbs.Lone lone_commands.SourceData)
    ∷ (codes "cost", verbs.Address address_commands.Cost)
    ∷ (codes "trace-data", verbs.Number (number_commands.Trace (reports.Records Lines)))
    ∷ (codes "profile-data", verbs.Number (number_commands.Profile (reports.Records Lines)))
    ∷ (codes "optimum-data", verbs.NumberAddress (reports.Records Lines))
    ∷ (codes "look", verbs.CountedRange)
    ∷ (codes "json", verbs.Line)
    ∷ (codes "transcript", verbs.Lone lone_commands.Transcript)
    ∷ (codes "new", verbs.Lone lone_commands.New)
    ∷ (codes "help", verbs.Command)
    ∷ (codes "quit", verbs.End)
    ∷ []

-- what comes after a command's name in its form
unfoldable pub operands_form : Verb → List ℕ
operands_form (verbs.Lone _) = []
operands_form (verbs.Address command) = codes " ttss"
operands_form (verbs.Number command) = codes " NUMBER"
operands_form (verbs.NumberAddress reports.Columns) = codes " NUMBER or optimum NUMBER ttss"
operands_form (verbs.NumberAddress (reports.Records form)) =
    codes " NUMBER or optimum-data NUMBER ttss"
operands_form verbs.Run = codes " NUMBER or run NUMBER until CONDITION: ttss, a word as put ttss has it, ttss < NUMBER, changed ttss, printed NUMBER, rows NUMBER or clock NUMBER, each also after NUMBER times"
operands_form (verbs.Range command) = codes " ttss NUMBER, at most 64"
operands_form verbs.ScaledRange = codes " ttss NUMBER, at most 64, or numbers ttss NUMBER POINT"
operands_form verbs.CountedRange =
    codes " ttss NUMBER, at most 64, and how many printed codes are known"
operands_form verbs.Word =
    codes " ttss WORD, FRACTION or OPERATION as in a source, or put ttss = NUMBER or = NUMBER POINT"
operands_form verbs.Text = codes " TEXT"
operands_form verbs.Key = codes " normal, oneop, manual, start, clear, fill, execute, compute or read, or bp32, bp16, bp8, bp4, transfer or sixbit with up or down"
operands_form verbs.Source =
    codes ", then its lines, then a line with only a point; in the program lgp_monitor also source FILE"
operands_form verbs.File = codes " FILE, in the program lgp_monitor"
operands_form verbs.Moment =
    codes " NUMBER LINE, answered as at the beginning of the order of that number, counted from 0"
operands_form verbs.To =
    codes " NUMBER, the beginning of the order of that number, counted from 0, or to first CONDITION or to last CONDITION, as help run has them"
operands_form verbs.Line = codes " LINE, where LINE is one for programs, such as state-data"
operands_form verbs.Command = codes " or help COMMAND"
operands_form verbs.End = codes ", which ends the program lgp_monitor"

-- the same in a word or two, for programs
unfoldable pub operands_kind : Verb → List ℕ
operands_kind (verbs.Lone _) = codes " alone\n"
operands_kind (verbs.Address command) = codes " address\n"
operands_kind (verbs.Number command) = codes " number\n"
operands_kind (verbs.NumberAddress form) = codes " number\n"
operands_kind verbs.Run = codes " number\n"
operands_kind (verbs.Range command) = codes " range\n"
operands_kind verbs.ScaledRange = codes " range\n"
operands_kind verbs.CountedRange = codes " range\n"
operands_kind verbs.Word = codes " address word\n"
operands_kind verbs.Text = codes " text\n"
operands_kind verbs.Key = codes " button\n"
operands_kind verbs.Source = codes " source\n"
operands_kind verbs.File = codes " file\n"
operands_kind verbs.Moment = codes " number line\n"
operands_kind verbs.To = codes " order\n"
operands_kind verbs.Line = codes " line\n"
operands_kind verbs.Command = codes " command\n"
operands_kind verbs.End = codes " alone\n"

-- whether a command shows something and changes nothing
abbrev pub only_asks : Verb → Bool
only_asks (verbs.Lone lone_commands.ScriptQuestion) = true
only_asks (verbs.Lone lone_commands.Paper) = true
only_asks (verbs.Lone lone_commands.Rules) = true
only_asks (verbs.Lone lone_commands.Labels) = true
only_asks (verbs.Lone lone_commands.Live) = true
only_asks (verbs.Lone lone_commands.Commands) = true
only_asks (verbs.Lone lone_commands.PanelData) = true
only_asks (verbs.Lone lone_commands.CommandsData) = true
only_asks (verbs.Lone lone_commands.OperationsData) = true
only_asks (verbs.Lone lone_commands.FaultsData) = true
only_asks (verbs.Lone lone_commands.StateData) = true
only_asks (verbs.Lone lone_commands.LabelsData) = true
only_asks (verbs.Lone lone_commands.RulesData) = true
only_asks (verbs.Lone lone_commands.TapeData) = true
only_asks (verbs.Lone lone_commands.SourceData) = true
only_asks (verbs.Lone lone_commands.Transcript) = true
only_asks (verbs.Address address_commands.Why) = true
only_asks (verbs.Range command) = true
only_asks (verbs.Address address_commands.WhyData) = true
only_asks (verbs.Address address_commands.Cost) = true
only_asks (verbs.Number number_commands.PaperData) = true
only_asks verbs.ScaledRange = true
only_asks verbs.CountedRange = true
only_asks verbs.Moment = true
only_asks verbs.Command = true
only_asks _ = false
