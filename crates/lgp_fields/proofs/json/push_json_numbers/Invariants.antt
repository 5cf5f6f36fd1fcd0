use Rattle.std.proofs.Common.{◌≡◌, ◌++◌, codes, drop, true}
use Rattle.lgp_fields.specs.Printed.{number_json, numbers_text}
use Rattle.lgp_fields.proofs.json.push_json_numbers.Given as goal

abbrev pub invariant-loop-number : goal.invariant-loop-number
invariant-loop-number g l = l.text.items ++ numbers_text number_json (codes ",") l.first (drop l.number-index l.numbers) ≡ l.fn.text.items ++ numbers_text number_json (codes ",") true l.numbers
