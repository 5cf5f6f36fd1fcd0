use Rattle.std.proofs.Common.{◌≡◌, ◌++◌, map}
use Rattle.bstr.specs.Text.{lines_of, without_terminator}
use Rattle.lgp_help.specs.Tables.{rows_text}
use Rattle.lgp_help.proofs.table.push_rows.Given as goal

abbrev pub invariant-loop-row : goal.invariant-loop-row
invariant-loop-row g l = record {
  can : (goal.iterator-loop-row g).can_next l.row-iterator;
  finite : (goal.iterator-loop-row g).is_finite l.row-iterator;
  text : l.text.items ++ rows_text l.fn.form l.fn.keys l.row-iterator
      ≡ l.fn.text.items ++ rows_text l.fn.form l.fn.keys (map without_terminator (lines_of l.fn.rows));
}
