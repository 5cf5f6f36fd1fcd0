use Rattle.std.proofs.Common.{◌≡◌, ◌++◌, ◌∷◌, ◌∙◌, List, ℕ, ap, arith, codes, refl, true}
use Rattle.lgp_fields.specs.Plain.{Plain, Nothing, Number, Signed, YesNo, Numbers, Text, field}
use Rattle.lgp_fields.specs.Printed.{field_line, value_text}
use Rattle.lgp_fields.specs.ReadBack.{has_text, key_of, value_of}
use Rattle.lgp_fields.proofs.ReadBackLaws.{key_back, value_back}
use Rattle.lgp_fields.proofs.laws.lines_are_read_back.Goals as goal

-- a line that a value has
line_of : (key : List ℕ) (value : Plain) → has_text value ≡ true
    → field_line (field key value) ≡ key ++ (32 ∷ (value_text value ++ codes "\n"))
unfolding field_line
line_of key Nothing none = absurd (grind arith)
line_of key (Number n) is = refl
line_of key (Signed minus n) is = refl
line_of key (YesNo holds) is = refl
line_of key (Numbers ns) is = refl
line_of key (Text t) is = refl

pub returns-clause-key : goal.returns-clause-key
returns-clause-key c = λ key value free is.
    ap key_of (line_of key value is) ∙ key_back key (value_text value ++ codes "\n") free

pub returns-clause-value : goal.returns-clause-value
returns-clause-value c = λ key value free is.
    ap value_of (line_of key value is) ∙ value_back key (value_text value ++ codes "\n") free
