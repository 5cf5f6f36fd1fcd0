use Rattle.std.proofs.Common.{arith, subst, rules}
use Rattle.std.proofs.lemmas.Grind.{common_steps}
use Rattle.std.proofs.lemmas.List.Elements.{All-more}
use Rattle.lgp_flexo.specs.Code.{IsCode}
use Rattle.lgp_exchange.proofs.code_bytes.tape_bytes.Goals as goal

pub loop-code-preserved : goal.loop-code-preserved
loop-code-preserved g c = record {
  bytes = grind (arith, common_steps);
  codes = All-more IsCode c.args.codes.now c.loop-code.code-index c.code-item.result c.loop-code-test.true c.loop-code.invariant.codes
      (subst IsCode c.code-item.is (search rules));
}

pub returns-clause-bytes : goal.returns-clause-bytes
returns-clause-bytes g c = grind (arith, common_steps)

pub returns-clause-codes : goal.returns-clause-codes
returns-clause-codes g c = grind (arith, common_steps)
