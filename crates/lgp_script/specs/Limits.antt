-- Part of the public promise: the limits of the script language.
use Rattle.std.specs.Prelude.{ℕ}

-- how many bytes a source may have
abbrev pub source_limit : ℕ
source_limit = 1048576

-- how many steps are kept for going back
abbrev pub kept_limit : ℕ
kept_limit = 4096
