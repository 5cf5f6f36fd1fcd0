use Rattle.std.proofs.Common.{◌≡◌, ◌∙◌, length, refl, rules}
use Rattle.std.specs.Str.Lines.{lines}
use Rattle.lgp_moment.proofs.SearchLemmas.{search_begun, search_ended, searching_on}
use Rattle.lgp_moment.proofs.search.search_lines.Goals as goal

pub loop-rest-init : goal.loop-rest-init
loop-rest-init g c = record {
  way = search_begun c.args.session.now.state (lines c.args.transcript.now) c.args.condition _ c.new.ensures.condition refl refl;
  which = refl;
}

pub loop-rest-preserved : goal.loop-rest-preserved
loop-rest-preserved g c =
    let line = c.first_line-first.ensures.line in
    let i = c.loop-rest.invariant in
    let done = c.in_ok-search_line.ensures line.first line.is_kept in
    record {
      way = searching_on c.args.session.now.state c.loop-rest.session.state c.search_line.new.session.state (lines c.args.transcript.now) c.args.condition c.loop-rest.rest.now c.first_line-first.result.line c.first_line-first.result.rest.now
          c.loop-rest.search c.search_line.new.search line done i.way;
      which = done.looks.same.which ∙ i.which;
    }

pub returns : goal.returns
returns g c =
    let none : length c.loop-rest.rest.now ≡ 0 = search rules in
    search_ended c.args.session.now.state c.loop-rest.session.state (lines c.args.transcript.now) c.args.condition c.args.which c.loop-rest.rest.now c.loop-rest.search none c.loop-rest.invariant.which c.loop-rest.invariant.way
