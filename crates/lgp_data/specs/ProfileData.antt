-- Part of the public promise. A profile as records: one of the whole, and then one for each of the ten
-- dearest places. Turns are cut off after the digit that is shown.
use Rattle.std.specs.Prelude.{ℕ, ◌++◌, None, List, [], ◌∷◌, codes}
use Rattle.lgp_trace.specs.Phases.{all_phases}
use Rattle.lgp_trace.specs.Profile.{Profiled}
use Rattle.lgp_trace.specs.ProfileLines.{dearest_after, places_text, turns_text}
use Rattle.lgp_fields.specs.Plain.{PlainField, field, Number, Text}
use Rattle.lgp_fields.specs.Printed.{record_in}
use Rattle.lgp_fields.specs.declared.records.RecordForm.{RecordForm}
use Rattle.lgp_data.specs.Words.{labelled_place}

-- how many orders, word times and turns there were, the word times by phase, and those of the
-- activities whose orders were at no address
unfoldable pub profile_record : ℕ → Profiled → List PlainField
profile_record orders profile =
    field (codes "orders") (Number orders)
    ∷ field (codes "times") (Number (all_phases profile.phases))
    ∷ field (codes "turns") (Text (turns_text (all_phases profile.phases)))
    ∷ field (codes "find") (Number profile.phases.find)
    ∷ field (codes "take") (Number profile.phases.take)
    ∷ field (codes "seek") (Number profile.phases.seek)
    ∷ field (codes "act") (Number profile.phases.act)
    ∷ field (codes "elsewhere") (Number profile.elsewhere)
    ∷ []

-- a place, and its word times
unfoldable pub place_record : List (List ℕ × ℕ) → ℕ × ℕ → List PlainField
place_record names here =
    field (codes "place") (labelled_place names here.0)
    ∷ field (codes "times") (Number here.1)
    ∷ []

abbrev pub place_in : RecordForm → List (List ℕ × ℕ) → ℕ × ℕ → List ℕ
place_in form names here = record_in form (place_record names here)

-- the profile of a given number of orders
unfoldable pub profile_in : RecordForm → List (List ℕ × ℕ) → ℕ → Profiled → List ℕ
profile_in form names orders profile =
    record_in form (profile_record orders profile)
    ++ places_text (place_in form names) profile.places 10 (dearest_after profile.places None)
