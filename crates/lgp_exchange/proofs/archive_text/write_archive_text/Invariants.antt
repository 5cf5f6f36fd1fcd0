use Rattle.std.proofs.Common.{◌≡◌, take, All}
use Rattle.lgp_flexo.specs.Code.{IsCode}
use Rattle.lgp_exchange.specs.ArchiveText.{archived_tape}
use Rattle.lgp_exchange.proofs.archive_text.write_archive_text.Given as goal

abbrev pub invariant-loop-code : goal.invariant-loop-code
invariant-loop-code g l = record {
  written : l.text.items ≡ archived_tape (take l.code-index l.codes);
  codes : All IsCode (take l.code-index l.codes);
}
