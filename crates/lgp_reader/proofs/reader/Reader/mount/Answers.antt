use Rattle.std.proofs.Common.{rules}
use Rattle.lgp_reader.proofs.reader.Reader.mount.Goals as goal

pub returns-clause-mounted : goal.returns-clause-mounted
returns-clause-mounted g c = search rules
