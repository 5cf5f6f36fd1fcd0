use Rattle.std.proofs.Common.{◌≡◌, ◌∷◌, map, arith, sym, ap, subst, ◌∙◌}
use Rattle.lgp_source.specs.Seen.{line_seen}
use Rattle.lgp_assembler.specs.Fields.{fields_of}
use Rattle.lgp_assembler.specs.FieldsSeenInside.{fields_seen}
use Rattle.lgp_assembler.specs.Places.{has_ended}
use Rattle.lgp_assembler.specs.Image.{all_lines, passed_lines}
use Rattle.lgp_assembler.specs.Survey.{declared_in}
use Rattle.lgp_assembler.proofs.SurveySteps.{declared_step, ended_step}
use Rattle.lgp_assembler.proofs.surveying.declare_source.Goals as goal

pub loop-line-init : goal.loop-line-init
unfolding all_lines has_ended declared_in
loop-line-init g c =
    grind arith

pub loop-line-preserved : goal.loop-line-preserved
loop-line-preserved g c =
    let before = c.loop-line.invariant in
    let step = c.in-Some.ensures.steps in
    let now = c.in_ok-pass.ensures in
    let line = fields_seen c.fields_of.result in
    record {
      can = tt;
      finite = tt;
      earlier = fields_of (line_seen c.in-Some.line) ∷ before.earlier;
      names = subst (λ f. c.pass.new.self.names ≡ declared_in (f ∷ before.earlier)) c.fields_of.ensures
          (declared_step line _ _ _ _ before.names before.ended now.names);
      ended = subst (λ f. c.pass.new.self.ended ≡ has_ended (f ∷ before.earlier)) c.fields_of.ensures
          (ended_step line _ _ _ before.ended now.ended);
      rest = ap (λ lines. passed_lines before.earlier (map fields_of lines)) (sym step) ∙ before.rest;
    }

pub returns-clause-names : goal.returns-clause-names
returns-clause-names g c =
    grind arith

pub returns-clause-ended : goal.returns-clause-ended
returns-clause-ended g c =
    grind arith
