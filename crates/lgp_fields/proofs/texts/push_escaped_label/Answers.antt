use Rattle.std.proofs.Common.{◌≡◌, ◌==◌, ◌∙◌, true, List, [], ◌∷◌, ℕ, arith, length, refl, sym}
use Rattle.std.proofs.lemmas.Grind.{common_steps}
use Rattle.std.proofs.lemmas.List.{append-nil}
use Rattle.lgp_fields.specs.Escaped.{escaped, escaped_byte}
use Rattle.lgp_fields.specs.Seen.{label_text}
use Rattle.lgp_fields.proofs.texts.push_escaped_label.Goals as goal

no_label : (label : List ℕ) → (length label == 0) ≡ true → escaped (label_text label) ≡ []
unfolding label_text escaped
no_label [] none = refl
no_label (b ∷ more) none = absurd (grind arith)

pub returns-then-is_empty : goal.returns-then-is_empty
returns-then-is_empty g c = rw (no_label c.args.label.now (sym c.is_empty.ensures ∙ c.if-is_empty.true)) (sym (append-nil c.args.text.now.items))

pub returns : goal.returns
unfolding label_text escaped escaped_byte
returns g c = grind (arith, common_steps)
