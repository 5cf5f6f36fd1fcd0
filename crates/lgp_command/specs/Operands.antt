-- Part of the public promise: the operands that a line can say.
use Rattle.std.specs.Prelude.{ℕ, ◌+◌, ◌^◌, ◌<◌, ◌≤◌, Bool, true, false}
use Rattle.lgp_word.specs.Address.{IsAddress}
use Rattle.lgp_table.specs.declared.action.Action.{Action}
use Rattle.lgp_table.specs.declared.action.Action.TheVariants as actions
use Rattle.lgp_command.specs.Span.{WordRange}

-- a number of at most ten digits
abbrev pub IsCount : ℕ → Type 0
IsCount number = number < 10 ^ 10

-- a range of 1 to 64 words on the drum
pub record IsRange (range : WordRange) : Type 0 where
  pub address : IsAddress range.first
  pub some : 1 ≤ range.count
  pub few : range.count ≤ 64
  pub within : range.first + range.count ≤ 4096

-- a button or a switch is pressed, and no key struck
abbrev pub is_button : Action → Bool
is_button (actions.Key code) = false
is_button action = true
