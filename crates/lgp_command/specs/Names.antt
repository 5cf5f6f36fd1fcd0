-- Part of the public promise: the names of the script language, each with what it stands for.
use Rattle.std.specs.Prelude.{ℕ, Bool, true, false, List, [], ◌∷◌, codes}
use Rattle.lgp_table.specs.declared.action.Action.{Action}
use Rattle.lgp_table.specs.declared.action.Action.TheVariants as actions
use Rattle.lgp_table.specs.declared.panel.Mode.TheVariants.{Normal, OneOperation, Manual}
use Rattle.lgp_table.specs.declared.panel.Which.TheVariants.{B32, B16, B8, B4}
use Rattle.lgp_command.specs.declared.names.Verb.{Verb}
use Rattle.lgp_command.specs.declared.names.Verb.TheVariants as verbs
use Rattle.lgp_command.specs.declared.names.Switch.{Switch}
use Rattle.lgp_command.specs.declared.names.Switch.TheVariants as switches

-- the commands by their first word
abbrev pub verb_names : List (List ℕ × Verb)
verb_names =
    (codes "put", verbs.Put)
    ∷ (codes "mount", verbs.Mount)
    ∷ (codes "press", verbs.Press)
    ∷ (codes "type", verbs.Type)
    ∷ (codes "turn", verbs.Turn)
    ∷ (codes "orders", verbs.Orders)
    ∷ (codes "panel", verbs.Panel)
    ∷ (codes "words", verbs.Words)
    ∷ (codes "show", verbs.Show)
    ∷ (codes "printed", verbs.Printed)
    ∷ (codes "dump", verbs.Dump)
    ∷ (codes "source", verbs.Source)
    ∷ (codes "list", verbs.List)
    ∷ (codes "load", verbs.Load)
    ∷ (codes "break", verbs.Break)
    ∷ (codes "watch", verbs.Watch)
    ∷ (codes "drop", verbs.Drop)
    ∷ (codes "run", verbs.Run)
    ∷ (codes "back", verbs.Back)
    ∷ (codes "last", verbs.Last)
    ∷ []

-- the buttons of the console
abbrev pub button_names : List (List ℕ × Action)
button_names =
    (codes "normal", actions.Mode Normal)
    ∷ (codes "oneop", actions.Mode OneOperation)
    ∷ (codes "manual", actions.Mode Manual)
    ∷ (codes "start", actions.Start)
    ∷ (codes "clear", actions.ClearCounter)
    ∷ (codes "fill", actions.Fill)
    ∷ (codes "execute", actions.Execute)
    ∷ (codes "compute", actions.StartCompute)
    ∷ (codes "read", actions.StartRead)
    ∷ []

-- its switches, and their positions: true is down
abbrev pub switch_names : List (List ℕ × Switch)
switch_names =
    (codes "bp32", switches.BreakPoint B32)
    ∷ (codes "bp16", switches.BreakPoint B16)
    ∷ (codes "bp8", switches.BreakPoint B8)
    ∷ (codes "bp4", switches.BreakPoint B4)
    ∷ (codes "transfer", switches.Transfer)
    ∷ (codes "sixbit", switches.SixBit)
    ∷ []

abbrev pub position_names : List (List ℕ × Bool)
position_names = (codes "down", true) ∷ (codes "up", false) ∷ []
