use Rattle.std.proofs.Common.{◌≡◌, ◌++◌, map, true}
use Rattle.bstr.specs.Text.{lines_of, without_terminator}
use Rattle.lgp_desk.specs.Json.{json_lines}
use Rattle.lgp_desk.proofs.json.push_lines.Given as goal

abbrev pub invariant-loop-line : goal.invariant-loop-line
invariant-loop-line g l = record {
  can : (goal.iterator-loop-line g).can_next l.line-iterator;
  finite : (goal.iterator-loop-line g).is_finite l.line-iterator;
  text : l.text.items ++ json_lines l.fn.objects l.first l.line-iterator
      ≡ l.fn.text.items ++ json_lines l.fn.objects true (map without_terminator (lines_of l.fn.reply));
}
