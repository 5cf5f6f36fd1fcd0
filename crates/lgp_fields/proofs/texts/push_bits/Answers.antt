use Rattle.std.proofs.Common.{rules}
use Rattle.lgp_fields.proofs.EscapedLemmas.{digits-themselves}
use Rattle.lgp_fields.proofs.texts.push_bits.Goals as goal

pub returns : goal.returns
returns g c = rw (digits-themselves c.args.bits) (search rules)
