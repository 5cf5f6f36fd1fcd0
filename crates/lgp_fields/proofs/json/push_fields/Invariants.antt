use Rattle.std.proofs.Common.{◌≡◌, ◌++◌, drop}
use Rattle.lgp_fields.specs.Printed.{fields_json}
use Rattle.lgp_fields.specs.Seen.{fields_seen}
use Rattle.lgp_fields.proofs.json.push_fields.Given as goal

abbrev pub invariant-loop-field : goal.invariant-loop-field
invariant-loop-field g l = l.text.items ++ fields_json l.first (fields_seen (drop l.field-index l.fields)) ≡ l.fn.text.items ++ fields_json l.begins (fields_seen l.fields)
