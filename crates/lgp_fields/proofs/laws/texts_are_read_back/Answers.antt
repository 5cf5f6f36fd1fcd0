use Rattle.std.proofs.Common.{◌∙◌, ◌∷◌, [], List, ℕ, ap, append_assoc}
use Rattle.lgp_fields.specs.Escaped.{escaped}
use Rattle.lgp_fields.specs.Printed.{value_json}
use Rattle.lgp_fields.specs.ReadBack.{unescaped_at}
use Rattle.lgp_fields.proofs.ReadBackLaws.{text_back, text_back_in}
use Rattle.lgp_fields.proofs.laws.texts_are_read_back.Goals as goal

pub returns-clause-line : goal.returns-clause-line
returns-clause-line c = text_back

pub returns-clause-json : goal.returns-clause-json
unfolding value_json
returns-clause-json c = λ text rest bytes.
    ap (λ (t : List ℕ). unescaped_at 0 0 t) (append_assoc (escaped text) (34 ∷ []) rest) ∙ text_back_in text rest bytes
