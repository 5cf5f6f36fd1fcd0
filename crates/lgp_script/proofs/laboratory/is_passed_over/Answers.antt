use Rattle.std.proofs.Common.{◌≡◌, ◌∙◌, ◌==◌, false, get_or, rules, true}
use Rattle.std.specs.Str.{byte}
use Rattle.lgp_script.proofs.KeptLemmas.{passed_over_kept}
use Rattle.lgp_script.proofs.laboratory.is_passed_over.Goals as goal

pub returns-then-has_no_word : goal.returns-then-has_no_word
returns-then-has_no_word c = λ text kept.
    let blank : c.args.line.now.blank ≡ true = search rules in
    c.if-has_no_word.true ∙ (rw blank at (passed_over_kept _ _ kept))

pub returns-else-has_no_word : goal.returns-else-has_no_word
returns-else-has_no_word c = λ text kept.
    let blank : c.args.line.now.blank ≡ false = search rules in
    let comment : c.is_comment.result ≡ (get_or c.args.line.now.front 0 0 == byte ";") = search rules in
    comment ∙ (rw blank at (passed_over_kept _ _ kept))
