-- The fields of parts one after another.
use Rattle.std.proofs.Common.{◌≡◌, ◌≤◌, true, false, List, [], ◌∷◌, ◌++◌, append_assoc, arith, length, refl}
use Rattle.lgp_fields.specs.Plain.{PlainField}
use Rattle.lgp_fields.specs.Printed.{fields_json, record_lines}

pub lines-append : (a b : List PlainField) → record_lines (a ++ b) ≡ record_lines a ++ record_lines b
unfolding record_lines
lines-append [] b = refl
lines-append (field ∷ more) b = rw (lines-append more b, append_assoc)

pub later-append : (a b : List PlainField) → fields_json false (a ++ b) ≡ fields_json false a ++ fields_json false b
unfolding fields_json
later-append [] b = refl
later-append (field ∷ more) b = rw (later-append more b) (simp append_assoc)

pub fields-append : (a b : List PlainField) → 1 ≤ length a → fields_json true (a ++ b) ≡ fields_json true a ++ fields_json false b
unfolding fields_json
fields-append [] b some = absurd (omega arith)
fields-append (field ∷ more) b some = rw (later-append more b) (simp append_assoc)
