use Rattle.std.proofs.Common.{◌≡◌, ◌++◌, drop}
use Rattle.lgp_fields.specs.Printed.{record_lines}
use Rattle.lgp_fields.specs.Seen.{fields_seen}
use Rattle.lgp_fields.proofs.lines.push_lines.Given as goal

abbrev pub invariant-loop-field : goal.invariant-loop-field
invariant-loop-field g l = l.text.items ++ record_lines (fields_seen (drop l.field-index l.fields)) ≡ l.fn.text.items ++ record_lines (fields_seen l.fields)
