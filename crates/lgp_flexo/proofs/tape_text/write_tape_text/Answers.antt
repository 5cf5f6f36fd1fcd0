use Rattle.std.proofs.Common.{take, arith, Ok, ap, ◌∙◌}
use Rattle.std.proofs.lemmas.Grind.{common_steps}
use Rattle.std.proofs.lemmas.List.{take_all}
use Rattle.lgp_flexo.proofs.Writing.{ReadsBack-more, ReadsBack-whole}
use Rattle.lgp_flexo.proofs.tape_text.write_tape_text.Goals as goal

pub loop-code-init : goal.loop-code-init
loop-code-init g c = grind arith

pub loop-code-preserved : goal.loop-code-preserved
loop-code-preserved g c = record {
  written = grind (arith, common_steps);
  reads_back = ReadsBack-more c.loop-code.text.items c.push_code.new.text.items c.args.codes.now c.loop-code.code-index c.code-item.result c.loop-code-test.true c.code-item.is c.push_code.ensures.code c.in_ok-push_code.ensures.ok c.loop-code.invariant.reads_back;
}

pub returns-clause-reads_back : goal.returns-clause-reads_back
returns-clause-reads_back g c =
    ReadsBack-whole c.loop-code.text.items (take c.loop-code.code-index c.args.codes.now) c.loop-code.invariant.reads_back
    ∙ ap Ok (take_all c.loop-code.code-index c.args.codes.now c.loop-code-test.false)
