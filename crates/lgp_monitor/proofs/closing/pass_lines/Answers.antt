use Rattle.std.proofs.Common.{arith, sym, ap, ◌∙◌, ◌≡◌, ◌+◌, ◌-◌, ◌≤◌, ℕ, List, [], ◌∷◌, length, drop}
use Rattle.std.proofs.lemmas.List.{drop-drop, drop_all, length-drop}
use Rattle.lgp_monitor.proofs.closing.pass_lines.Goals as goal

-- after an item that comes next, and where none is left
after_item : {X : Type 0} (n : ℕ) (xs : List X) (x : X) (rest : List X) → drop n xs ≡ x ∷ rest → drop (n + 1) xs ≡ rest
after_item n xs x rest e = sym (drop-drop 1 n xs) ∙ ap (drop 1) e

none-left : {X : Type 0} (n count : ℕ) (xs : List X) → drop n xs ≡ [] → n ≤ count → drop count xs ≡ []
none-left n count xs e few =
    let none : length xs - n ≡ 0 = sym (length-drop n xs) ∙ ap length e in drop_all _ xs (omega (arith, none, few))

pub returns-in_default : goal.returns-in_default
returns-in_default c =
    c.in_default.ensures.steps.1
    ∙ sym (none-left c.loop-passed._passed c.args.count c.args.lines.now (sym c.loop-passed.invariant ∙ c.in_default.ensures.steps.0) (omega arith))

pub loop-passed-preserved : goal.loop-passed-preserved
loop-passed-preserved c =
    sym (after_item c.loop-passed._passed c.args.lines.now _ c.next.new.self (sym c.loop-passed.invariant ∙ c.in-Some.ensures.steps))
