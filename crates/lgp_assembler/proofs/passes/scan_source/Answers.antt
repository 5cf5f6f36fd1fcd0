use Rattle.std.proofs.Common.{◌∷◌, length, map, arith, sym, ap, subst, ◌∙◌}
use Rattle.lgp_source.specs.Seen.{line_seen}
use Rattle.lgp_assembler.specs.Fields.{fields_of}
use Rattle.lgp_assembler.specs.FieldsSeenInside.{fields_seen}
use Rattle.lgp_assembler.specs.Places.{next_place}
use Rattle.lgp_assembler.specs.Image.{all_lines, passed_lines}
use Rattle.lgp_assembler.specs.ScanInside.{Stands}
use Rattle.lgp_assembler.proofs.ScanSteps.{stands_step, names_at, place_at, word_count_small}
use Rattle.lgp_assembler.proofs.passes.scan_source.Goals as goal

pub loop-line-init : goal.loop-line-init
unfolding all_lines next_place
loop-line-init g c =
    grind arith

pub loop-line-preserved : goal.loop-line-preserved
loop-line-preserved g c =
    let before = c.loop-line.invariant in
    let step = c.in-Some.ensures.steps in
    let now = c.in_ok-pass.ensures in
    let scan = c.pass.new.self in
    let line = fields_seen c.fields_of-fields.result in
    record {
      can = tt;
      finite = tt;
      few = omega (arith, ap length step, now.lines);
      room = omega (arith, ap length step, now.place, word_count_small line);
      earlier = fields_of (line_seen c.in-Some.line) ∷ before.earlier;
      stands = subst (λ f. Stands scan.lines scan.place scan.ended scan.names (f ∷ before.earlier)) c.fields_of-fields.ensures
          (stands_step _ _ _ _ _ _ _ _ _ _ before.stands now.lines
          (now.names ∙ names_at line _ c.loop-line.scan.place _ _ c.place_of-place.ensures.value)
          (now.place ∙ place_at line _ _ c.place_of-place.ensures.value) now.ended);
      rest = ap (λ lines. passed_lines before.earlier (map fields_of lines)) (sym step) ∙ before.rest;
    }

pub returns-clause-stands : goal.returns-clause-stands
returns-clause-stands g c =
    grind arith
