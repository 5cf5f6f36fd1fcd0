use Rattle.std.proofs.Common.{rules}
use Rattle.lgp_reader.proofs.reader.pass_codes.Goals as goal

pub returns-then-eq-clause-done : goal.returns-then-eq-clause-done
returns-then-eq-clause-done g c = search rules

pub returns-then-eq-clause-tape : goal.returns-then-eq-clause-tape
returns-then-eq-clause-tape g c = search rules
