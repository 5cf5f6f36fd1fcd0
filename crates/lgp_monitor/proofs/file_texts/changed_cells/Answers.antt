use Rattle.std.proofs.Common.{◌≡◌, ◌<◌, ◌+◌, ◌++◌, ◌==◌, ◌∙◌, ◌∷◌, [], ℕ, List, ap, arith, cond, drop, get_or, length, rules}
use Rattle.lgp_monitor.specs.FileTexts.{changed_cells}
use Rattle.lgp_monitor.proofs.RestoreLemmas.{changed_all, changed_more}
use Rattle.lgp_monitor.proofs.file_texts.changed_cells.Goals as goal

pub loop-number-preserved : goal.loop-number-preserved
loop-number-preserved g c =
    let olds = c.args.machine.now.state.core.words in
    let news = c.args.drum.now in
    let number = c.loop-number.number in
    let cells = c.loop-number.cells.items in
    let old = c.word.result in
    let new = c.word-in-loop-number.result in
    let here : c.unwrap-address.result ≡ number = search rules in
    let within_olds : number < length olds = omega (arith, c.word.ensures.drum) in
    let within_news : number < length news = omega (arith, c.word-in-loop-number.ensures.drum) in
    let old_is : old ≡ get_or olds number 0 = c.word.ensures.word ∙ ap (λ (a : ℕ). get_or olds a 0) here in
    let new_is : new ≡ get_or news number 0 = c.word-in-loop-number.ensures.word ∙ ap (λ (a : ℕ). get_or news a 0) here in
    record {
      before = λ _. c.word.ensures.drum;
      after = λ _. c.word-in-loop-number.ensures.drum;
      cells = ap (λ (t : List (ℕ × ℕ)). t ++ changed_cells (number + 1) (drop (number + 1) olds) (drop (number + 1) news))
          (c.in_ok-push_changed.ensures
          ∙ ap (λ (a : ℕ). cells ++ cond (old == new) [] ((a, new) ∷ [])) here
          ∙ ap (λ (o : ℕ). cells ++ cond (o == new) [] ((number, new) ∷ [])) old_is
          ∙ ap (λ (n : ℕ). cells ++ cond (get_or olds number 0 == n) [] ((number, n) ∷ [])) new_is)
          ∙ changed_more _ _ _ _ _ within_olds within_news c.loop-number.invariant.cells;
    }

pub returns : goal.returns
returns g c =
    changed_all _ _ _ _ _
    (omega (arith, c.loop-number.invariant.before (omega arith))) c.loop-number.invariant.cells
