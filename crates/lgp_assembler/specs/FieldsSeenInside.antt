-- Serves proofs only: the fields that the program's values show, which borrow the source.
use Rattle.std.specs.Option.{option_copied}
use Rattle.lgp_assembler.specs.Fields.{LineFields}
use Rattle.lgp_assembler.specs.declared.line_fields.Fields.{Fields}

abbrev pub fields_seen : Fields → LineFields
fields_seen fields = record {
  number = fields.number;
  is_bad = fields.is_bad;
  label = option_copied fields.label;
  has_operation = fields.has_operation;
  operation = fields.operation;
  first = option_copied fields.first;
  second = option_copied fields.second;
  count = fields.count;
}
