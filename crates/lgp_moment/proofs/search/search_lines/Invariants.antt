use Rattle.std.proofs.Common.{◌≡◌, length}
use Rattle.std.specs.Str.Lines.{lines}
use Rattle.lgp_moment.specs.SearchInside.{IsSearching}
use Rattle.lgp_moment.proofs.search.search_lines.Given as goal

abbrev pub invariant-loop-rest : goal.invariant-loop-rest
invariant-loop-rest g l = record {
  way : IsSearching l.fn.session.state (lines l.transcript) l.fn.condition l.session.state (lines l.rest) l.search;
  which : l.search.which ≡ l.fn.which;
}

abbrev pub decreases-loop-rest : goal.decreases-loop-rest
decreases-loop-rest g l = length l.rest
