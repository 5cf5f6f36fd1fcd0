use Rattle.std.proofs.Common.{rules, arith}
use Rattle.std.proofs.lemmas.Grind.{common_steps}
use Rattle.lgp_exchange.proofs.Bytes.{none-code}
use Rattle.lgp_exchange.proofs.code_bytes.collect_codes.Goals as goal

pub unreachable-requires : goal.unreachable-requires
unreachable-requires g c = search (rules, none-code)

pub loop-byte-preserved : goal.loop-byte-preserved
loop-byte-preserved g c = grind (arith, common_steps)

pub returns : goal.returns
returns g c = grind (arith, common_steps)
