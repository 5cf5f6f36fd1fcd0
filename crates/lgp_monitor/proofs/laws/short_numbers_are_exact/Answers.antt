use Rattle.lgp_monitor.proofs.ScaleLaws.{units-exact, units-late}
use Rattle.lgp_monitor.proofs.laws.short_numbers_are_exact.Goals as goal

pub returns-clause-short : goal.returns-clause-short
returns-clause-short c = units-exact

pub returns-clause-late_point : goal.returns-clause-late_point
returns-clause-late_point c = units-late
