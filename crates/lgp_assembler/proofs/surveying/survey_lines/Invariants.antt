use Rattle.std.proofs.Common.{◌≡◌, ◌+◌, ◌≤◌, ◌<◌, ◌^◌, List, length, map}
use Rattle.lgp_assembler.specs.Fields.{LineFields, fields_of}
use Rattle.lgp_assembler.specs.Image.{all_lines, passed_lines}
use Rattle.lgp_assembler.specs.ScanInside.{Stands, ArePlacesTaken}
use Rattle.lgp_assembler.specs.Survey.{survey_in}
use Rattle.lgp_assembler.proofs.surveying.survey_lines.Given as goal

abbrev pub invariant-loop-line : goal.invariant-loop-line
invariant-loop-line g l = record {
  can : (goal.iterator-loop-line g).can_next l.line-iterator;
  finite : (goal.iterator-loop-line g).is_finite l.line-iterator;
  few : l.scan.lines + length l.line-iterator < 2 ^ 63;
  room : l.scan.place + length l.line-iterator ≤ 2 ^ 63 + 4096;
  earlier : List LineFields;
  stands : Stands l.scan.lines l.scan.place l.scan.ended l.scan.names earlier;
  marks : ArePlacesTaken l.findings.taken.items earlier;
  lines : l.findings.lines.items ≡ survey_in l.names l.declared earlier;
  rest : passed_lines earlier (map fields_of l.line-iterator) ≡ all_lines l.source;
}
