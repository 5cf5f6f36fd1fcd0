-- Serves proofs only: how a run is reported by where its words would have cost less.
use Rattle.std.specs.Prelude.{ℕ, Option, Some, None}
use Rattle.lgp_monitor.specs.declared.telling.Report.{Report}
use Rattle.lgp_monitor.specs.declared.telling.Telling.{Telling}
use Rattle.lgp_monitor.specs.declared.telling.Telling.TheVariants as tellings

-- by all its words, or by one, in a form
abbrev pub sectors_told : Report → Option ℕ → Telling
sectors_told form None = tellings.Optimum form
sectors_told form (Some word) = tellings.OptimumOf form word
