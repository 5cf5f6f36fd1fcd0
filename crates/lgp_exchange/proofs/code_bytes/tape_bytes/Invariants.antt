use Rattle.std.proofs.Common.{◌≡◌, take, All}
use Rattle.lgp_flexo.specs.Code.{IsCode}
use Rattle.lgp_exchange.proofs.code_bytes.tape_bytes.Given as goal

abbrev pub invariant-loop-code : goal.invariant-loop-code
invariant-loop-code g l = record {
  bytes : l.bytes.items ≡ take l.code-index l.codes;
  codes : All IsCode (take l.code-index l.codes);
}
