use Rattle.lgp_optimum.proofs.runs.note_order.Goals as goal

pub returns-then-is_err-clause-order : goal.returns-then-is_err-clause-order
returns-then-is_err-clause-order g c = c.refusal.ensures c.args.debugger.now.rules
