use Rattle.std.proofs.Common.{◌≡◌, ◌∙◌, ◌++◌, ℕ, Result, Ok, Err, ap, false, is_err, rules, subst, sym}
use Rattle.std.specs.Result.{OnOk}
use Rattle.lgp_debugger.specs.Debugging.{order_origins}
use Rattle.lgp_debugger.specs.Run.{UnlessMemory, orders_of}
use Rattle.lgp_debugger.specs.declared.fault.Ran.{Ran}
use Rattle.lgp_debugger.specs.declared.fault.RunFault.{RunFault}
use Rattle.lgp_optimum.specs.OptimumKept.{IsOptimumOf}
use Rattle.lgp_monitor.specs.Telling.{reported_text}
use Rattle.lgp_monitor.specs.TellingInside.{sectors_told}
use Rattle.lgp_monitor.proofs.telling.BySectors.run_noting.Goals as goal

-- what holds where a call ended well, of one that did
ended_well : {T E P : Type 0} (result : Result T E) → is_err result ≡ false → OnOk result P → P
ended_well (Ok value) well p = p
ended_well (Err fault) well p = cc (well)

-- what holds of a run in any case
in_any_case : {P : Type 0} (outcome : Result Ran RunFault) → P → UnlessMemory outcome P
in_any_case (Ok ran) p = p
in_any_case (Err fault) p = λ e. p

pub returns-clause-reported : goal.returns-clause-reported
returns-clause-reported g c =
    let outcome = c.optimum_run-outcome.result in
    let before = c.args.debugger.now in
    let orders : c.orders_in-orders.result ≡ orders_of outcome = c.orders_in-orders.ensures in
    let noted = subst (λ (count : ℕ). IsOptimumOf c.optimum_run-outcome.new.optimum before.state count) (sym orders) c.optimum_run-outcome.ensures.noted in
    let well : is_err c.push_sectors.result ≡ false = search rules in
    in_any_case outcome
    (ended_well c.push_sectors.result well (c.push_sectors.ensures before.state (order_origins before) noted)
    ∙ ap (λ (count : ℕ). c.args.text.now.items ++ reported_text (sectors_told c.args.self.now.form c.args.self.now.word) c.args.names.now before.state (order_origins before) count) orders)
