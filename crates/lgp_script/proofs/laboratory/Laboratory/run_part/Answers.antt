use Rattle.std.proofs.Common.{ℕ, min, subst}
use Rattle.lgp_debugger.specs.Run.{IsRun}
use Rattle.lgp_script.specs.RunPart.{rules_if}
use Rattle.lgp_script.proofs.RunParts.{broken_part, ran_part}
use Rattle.lgp_script.proofs.laboratory.Laboratory.run_part.Goals as goal

pub returns-in-Ok : goal.returns-in-Ok
returns-in-Ok g c =
    let old = c.args.self.now in
    let new = c.run_by.new.self in
    let run : IsRun (rules_if c.args.by_rules old) (min c.args.limit c.args.most) old.debugger new.debugger c.run_by.result =
    subst (λ (n : ℕ). IsRun (rules_if c.args.by_rules old) n old.debugger new.debugger c.run_by.result) c.min.ensures c.run_by.ensures.run in
    ran_part c.args.by_rules c.args.limit c.args.most old new c.run_by.result run c.run_by.ensures.same c.in-Ok.ran c.goes_past.result c.in-Ok.is c.goes_past.ensures

pub returns-in_ok-broken_off-in-Err : goal.returns-in_ok-broken_off-in-Err
returns-in_ok-broken_off-in-Err g c =
    let old = c.args.self.now in
    let new = c.run_by.new.self in
    let run : IsRun (rules_if c.args.by_rules old) (min c.args.limit c.args.most) old.debugger new.debugger c.run_by.result =
    subst (λ (n : ℕ). IsRun (rules_if c.args.by_rules old) n old.debugger new.debugger c.run_by.result) c.min.ensures c.run_by.ensures.run in
    broken_part c.args.by_rules c.args.limit c.args.most old new c.run_by.result run c.run_by.ensures.same c.in-Err.broken c.in-Err.is c.in_ok-broken_off-in-Err.ensures.cause
