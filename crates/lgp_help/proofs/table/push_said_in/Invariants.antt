use Rattle.std.proofs.Common.{◌≡◌, map}
use Rattle.bstr.specs.Text.{lines_of, without_terminator}
use Rattle.lgp_help.specs.Tables.{said_in}
use Rattle.lgp_help.proofs.table.push_said_in.Given as goal

abbrev pub invariant-loop-row : goal.invariant-loop-row
invariant-loop-row g l = record {
  can : (goal.iterator-loop-row g).can_next l.row-iterator;
  finite : (goal.iterator-loop-row g).is_finite l.row-iterator;
  same : l.text.items ≡ l.fn.text.items;
  left : said_in l.fn.name l.row-iterator ≡ said_in l.fn.name (map without_terminator (lines_of l.fn.rows));
}
