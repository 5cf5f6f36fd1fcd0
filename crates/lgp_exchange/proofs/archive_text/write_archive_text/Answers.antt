use Rattle.std.proofs.Common.{◌≡◌, take, arith, ap, subst, ◌∙◌}
use Rattle.std.proofs.lemmas.Grind.{common_steps}
use Rattle.std.proofs.lemmas.List.{take_all}
use Rattle.std.proofs.lemmas.List.Elements.{All-more}
use Rattle.std.specs.List.{All}
use Rattle.lgp_flexo.specs.Archive.{codes_of_archive}
use Rattle.lgp_flexo.specs.Code.{IsCode}
use Rattle.lgp_exchange.specs.ArchiveText.{archived_tape}
use Rattle.lgp_exchange.proofs.Archives.{archive_reads_back}
use Rattle.lgp_exchange.proofs.archive_text.write_archive_text.Goals as goal

pub loop-code-preserved : goal.loop-code-preserved
loop-code-preserved g c = record {
  written = grind (arith, common_steps);
  codes = All-more IsCode c.args.codes.now c.loop-code.code-index c.code-item.result c.loop-code-test.true c.loop-code.invariant.codes
      (subst IsCode c.code-item.is c.push_code.ensures.code);
}

pub returns-clause-reads_back : goal.returns-clause-reads_back
returns-clause-reads_back g c =
    let all : take c.loop-code.code-index c.args.codes.now ≡ c.args.codes.now = take_all c.loop-code.code-index c.args.codes.now c.loop-code-test.false in
    ap codes_of_archive (c.loop-code.invariant.written ∙ ap archived_tape all)
    ∙ archive_reads_back c.args.codes.now (subst (All IsCode) all c.loop-code.invariant.codes)

pub returns-clause-written : goal.returns-clause-written
returns-clause-written g c = grind (arith, common_steps)
