use Rattle.std.proofs.Common.{◌≡◌, ◌∙◌, ◌++◌, List, length, ℕ, ap, rules}
use Rattle.std.specs.Str.Lines.{lines}
use Rattle.lgp_desk.specs.FileForms.{dump_lines}
use Rattle.lgp_desk.proofs.FormLemmas.{dump-more, dump-none}
use Rattle.lgp_desk.proofs.file_forms.dump_of_lines.Goals as goal

pub loop-rest-preserved : goal.loop-rest-preserved
loop-rest-preserved g c =
    ap (λ (t : List ℕ). t ++ dump_lines (lines c.first_line-first.result.rest.now)) c.in_ok-push_dump_line.ensures
    ∙ dump-more _ _ _ _ _ c.first_line-first.ensures.line c.loop-rest.invariant

pub returns : goal.returns
returns g c =
    let none : length c.loop-rest.rest.now ≡ 0 = search rules in
    dump-none _ _ _ none c.loop-rest.invariant
