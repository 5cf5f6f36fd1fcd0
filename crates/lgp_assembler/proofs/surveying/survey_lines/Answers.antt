use Rattle.std.proofs.Common.{◌≡◌, ◌∷◌, true, if◌then◌else◌, slice_set, length, map, arith, sym, ap, subst, ◌∙◌}
use Rattle.lgp_source.specs.Seen.{line_seen}
use Rattle.lgp_assembler.specs.Fields.{fields_of}
use Rattle.lgp_assembler.specs.FieldsSeenInside.{fields_seen}
use Rattle.lgp_assembler.specs.Places.{has_word, next_place, place_reached}
use Rattle.lgp_assembler.specs.Image.{all_lines, passed_lines}
use Rattle.lgp_assembler.specs.ScanInside.{Stands, ArePlacesTaken}
use Rattle.lgp_assembler.specs.Survey.{survey_in}
use Rattle.lgp_assembler.proofs.ScanSteps.{taken_step, stands_step, names_at, place_at, word_count_small}
use Rattle.lgp_assembler.proofs.SurveySteps.{survey_step}
use Rattle.lgp_assembler.proofs.surveying.survey_lines.Goals as goal

pub loop-line-init : goal.loop-line-init
unfolding all_lines next_place survey_in
loop-line-init g c =
    grind arith

pub loop-line-preserved : goal.loop-line-preserved
loop-line-preserved g c =
    let before = c.loop-line.invariant in
    let step = c.in-Some.ensures.steps in
    let now = c.in_ok-pass.ensures in
    let added = c.in_ok-add.ensures in
    let names = c.args.names.now in
    let declared = c.args.declared.now in
    let line = fields_seen c.fields_of-fields.result in
    let new = c.add.new.self in
    let old = c.loop-line.findings in
    let scan = c.pass.new.self in
    let place_is = c.place_of-place.ensures.value in
    record {
      can = tt;
      finite = tt;
      few = omega (arith, ap length step, now.lines);
      room = omega (arith, ap length step, now.place, word_count_small line);
      earlier = fields_of (line_seen c.in-Some.line) ∷ before.earlier;
      stands = subst (λ f. Stands scan.lines scan.place scan.ended scan.names (f ∷ before.earlier)) c.fields_of-fields.ensures
          (stands_step _ _ _ _ _ _ _ _ _ _ before.stands now.lines
          (now.names ∙ names_at line _ c.loop-line.scan.place _ _ place_is)
          (now.place ∙ place_at line _ _ place_is) now.ended);
      marks = subst (λ f. ArePlacesTaken new.taken.items (f ∷ before.earlier)) c.fields_of-fields.ensures
          (taken_step _ _ _ _ before.marks
          (added.taken ∙ ap (λ h. if has_word line then slice_set old.taken.items h true else old.taken.items) (place_is ∙ ap (place_reached line) before.stands.place_is)));
      lines = subst (λ f. new.lines.items ≡ survey_in names declared (f ∷ before.earlier)) c.fields_of-fields.ensures
          (survey_step names declared line _ c.loop-line.scan.place _ _ _ _ _ _ _ before.stands before.marks place_is before.lines added.lines);
      rest = ap (λ lines. passed_lines before.earlier (map fields_of lines)) (sym step) ∙ before.rest;
    }

pub returns : goal.returns
returns g c =
    grind arith
