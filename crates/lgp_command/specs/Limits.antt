-- Part of the public promise: the limits of the commands.
use Rattle.std.specs.Prelude.{ℕ}

-- how many digits a number may have, and how many words one command may show
abbrev pub digit_limit : ℕ
digit_limit = 10

abbrev pub shown_limit : ℕ
shown_limit = 64
