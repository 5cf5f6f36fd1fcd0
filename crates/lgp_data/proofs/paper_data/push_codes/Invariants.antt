use Rattle.std.proofs.Common.{◌≡◌, ◌+◌, ◌++◌, drop, true}
use Rattle.lgp_data.specs.ShowData.{codes_in}
use Rattle.lgp_data.proofs.paper_data.push_codes.Given as goal

abbrev pub invariant-loop-code : goal.invariant-loop-code
invariant-loop-code g l = record {
  number : l.number ≡ l.from + l.code-index;
  text : l.text.items ++ codes_in l.form l.number (drop l.code-index l.codes)
      ≡ l.fn.text.items ++ codes_in l.form l.from l.codes;
}
