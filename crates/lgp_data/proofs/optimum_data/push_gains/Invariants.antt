use Rattle.std.proofs.Common.{◌≡◌, ◌++◌, drop}
use Rattle.lgp_data.specs.OptimumData.{gains_in}
use Rattle.lgp_data.proofs.optimum_data.push_gains.Given as goal

abbrev pub invariant-loop-gain : goal.invariant-loop-gain
invariant-loop-gain g l = l.text.items ++ gains_in l.form l.names l.free (drop l.gain-index l.gains) ≡ l.fn.text.items ++ gains_in l.form l.names l.free l.gains
