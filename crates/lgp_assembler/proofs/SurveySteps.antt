-- One line more in a survey.
use Rattle.std.proofs.Common.{◌≡◌, ◌++◌, ◌||◌, ◌∷◌, [], Bool, ℕ, List, option_to_list, ap, ◌∙◌}
use Rattle.lgp_assembler.specs.Fields.{LineFields}
use Rattle.lgp_assembler.specs.Faults.{fault_of, line_meaning}
use Rattle.lgp_assembler.specs.Parts.{NameList}
use Rattle.lgp_assembler.specs.Places.{has_ended, is_end, new_label, place_of, place_reached}
use Rattle.lgp_assembler.specs.ScanInside.{Stands, ArePlacesTaken, coming_fault}
use Rattle.lgp_assembler.specs.Survey.{declared_in, survey_at, survey_in, surveyed}
use Rattle.lgp_assembler.specs.declared.surveying.LineSurvey.{LineSurvey}
use Rattle.lgp_assembler.proofs.Rows.{fault_stands}

pub ended_step : (line : LineFields) (earlier : List LineFields) (before after : Bool) → before ≡ has_ended earlier → after ≡ (is_end line.operation || before) → after ≡ has_ended (line ∷ earlier)
unfolding has_ended
ended_step line earlier before after was now = now ∙ ap (λ b. is_end line.operation || b) was

pub declared_step : (line : LineFields) (earlier : List LineFields) (ended : Bool) (names names' : NameList) → names ≡ declared_in earlier → ended ≡ has_ended earlier
    → names' ≡ names ++ option_to_list (new_label line.label line.number ended names) → names' ≡ declared_in (line ∷ earlier)
unfolding declared_in
declared_step line earlier ended names names' are was now =
    now ∙ ap (λ b. names ++ option_to_list (new_label line.label line.number b names)) was
    ∙ ap (λ ns. ns ++ option_to_list (new_label line.label line.number (has_ended earlier) ns)) are

pub survey_step : (names declared : NameList) (line : LineFields) (lines place : ℕ) (ended : Bool) (before : NameList) (taken : List Bool) (earlier : List LineFields) (here : ℕ) (old new : List LineSurvey)
    → Stands lines place ended before earlier → ArePlacesTaken taken earlier → here ≡ place_reached line place → old ≡ survey_in names declared earlier
    → new ≡ old ++ survey_at declared line here (line_meaning names here line) (coming_fault line (line_meaning names here line) here ended before taken) ∷ []
    → new ≡ survey_in names declared (line ∷ earlier)
unfolding survey_in
survey_step names declared line lines place ended before taken earlier here old new s marks here_is were now =
    let there = place_reached line place in
    let there_is : there ≡ place_of line earlier = ap (place_reached line) s.place_is in
    now
    ∙ ap (λ h. old ++ survey_at declared line h (line_meaning names h line) (coming_fault line (line_meaning names h line) h ended before taken) ∷ []) here_is
    ∙ ap (λ f. old ++ survey_at declared line there (line_meaning names there line) f ∷ []) (fault_stands names line lines place ended before taken earlier s marks)
    ∙ ap (λ h. old ++ survey_at declared line h (line_meaning names h line) (fault_of names line earlier) ∷ []) there_is
    ∙ ap (λ them. them ++ surveyed names declared earlier line ∷ []) were
