-- Part of the public promise: the words and letters for what a panel shows.
use Rattle.std.specs.Prelude.{ℕ, Bool, if◌then◌else◌, List, [], ◌∷◌, codes, map}
use Rattle.std.specs.Str.{byte}
use Rattle.lgp_table.specs.declared.panel.Switches.{Switches}
use Rattle.lgp_table.specs.declared.panel.Status.{Status}
use Rattle.lgp_table.specs.declared.panel.Status.TheVariants.{Halted, Going, Executing, Waiting}
use Rattle.lgp_table.specs.declared.panel.Status.TheVariants.{Reading}
use Rattle.lgp_table.specs.declared.panel.Cause.TheVariants.{Operator, Stop, Overflow, Step}
use Rattle.lgp_table.specs.declared.panel.Mode.{Mode}
use Rattle.lgp_table.specs.declared.panel.Mode.TheVariants.{Normal, OneOperation, Manual}

unfoldable pub status_text : Status → List ℕ
status_text (Halted Operator) = codes "halted operator"
status_text (Halted Stop) = codes "halted stop"
status_text (Halted Overflow) = codes "halted overflow"
status_text (Halted Step) = codes "halted step"
status_text Going = codes "going"
status_text Executing = codes "executing"
status_text Waiting = codes "waiting"
status_text Reading = codes "reading"

unfoldable pub mode_text : Mode → List ℕ
mode_text Normal = codes "normal"
mode_text OneOperation = codes "oneop"
mode_text Manual = codes "manual"

-- d for down, u for up
abbrev pub switch_text : Bool → ℕ
switch_text down = if down then byte "d" else byte "u"

unfoldable pub switches_text : Switches → List ℕ
switches_text switches =
    map switch_text (switches.b32 ∷ switches.b16 ∷ switches.b8 ∷ switches.b4 ∷ switches.transfer
    ∷ switches.six_bit ∷ [])

unfoldable pub on_text : Bool → List ℕ
on_text on = if on then codes "on" else codes "off"
