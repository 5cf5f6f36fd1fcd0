use Rattle.std.proofs.Common.{◌≡◌, ◌+◌, ◌++◌, drop}
use Rattle.lgp_source.specs.Source.{lines_of}
use Rattle.lgp_data.specs.SourceData.{source_lines_in}
use Rattle.lgp_data.proofs.source_data.push_source_lines.Given as goal

abbrev pub invariant-loop-place : goal.invariant-loop-place
invariant-loop-place g l = l.text.items ++ source_lines_in l.form (l.place + 1) l.lines (drop l.place l.surveys)
    ≡ l.fn.text.items ++ source_lines_in l.form 1 (lines_of l.source) l.surveys
