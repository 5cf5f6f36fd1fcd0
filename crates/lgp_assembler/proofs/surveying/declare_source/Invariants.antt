use Rattle.std.proofs.Common.{◌≡◌, List, map}
use Rattle.lgp_assembler.specs.Fields.{LineFields, fields_of}
use Rattle.lgp_assembler.specs.Image.{all_lines, passed_lines}
use Rattle.lgp_assembler.specs.Places.{has_ended}
use Rattle.lgp_assembler.specs.Survey.{declared_in}
use Rattle.lgp_assembler.proofs.surveying.declare_source.Given as goal

abbrev pub invariant-loop-line : goal.invariant-loop-line
invariant-loop-line g l = record {
  can : (goal.iterator-loop-line g).can_next l.line-iterator;
  finite : (goal.iterator-loop-line g).is_finite l.line-iterator;
  earlier : List LineFields;
  names : l.declared.names ≡ declared_in earlier;
  ended : l.declared.ended ≡ has_ended earlier;
  rest : passed_lines earlier (map fields_of l.line-iterator) ≡ all_lines l.source;
}
