use Rattle.std.proofs.Common.{◌≡◌, take}
use Rattle.lgp_flexo.specs.TapeText.{written_tape}
use Rattle.lgp_flexo.proofs.Writing.{ReadsBack}
use Rattle.lgp_flexo.proofs.tape_text.write_tape_text.Given as goal

abbrev pub invariant-loop-code : goal.invariant-loop-code
invariant-loop-code g l = record {
  written : l.text.items ≡ written_tape (take l.code-index l.codes);
  reads_back : ReadsBack l.text.items (take l.code-index l.codes);
}
