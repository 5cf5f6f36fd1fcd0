use Rattle.lgp_moment.proofs.MomentLemmas.{run_cut, run_whole}
use Rattle.lgp_moment.proofs.moment.take_run.Goals as goal

pub returns-in_ok-keep_orders : goal.returns-in_ok-keep_orders
returns-in_ok-keep_orders g c = λ text is.
    run_cut c.args.session.now c.keep_orders.new.session c.args.line.now text c.args.by_rules c.args.limit c.args.left c.get.result c.get-2.result c.answers_mut.result.now c.run_part.new.self c.in_ok-part.part
    is c.requires c.get.ensures.value c.get-2.ensures.value c.get-2.ensures.range c.answers_mut.ensures.value c.in_ok-part.ensures c.if-part.true c.in_ok-keep_orders.ensures

pub returns-in_ok-keep_line : goal.returns-in_ok-keep_line
returns-in_ok-keep_line g c = λ text is.
    run_whole c.args.session.now c.keep_line.new.self c.args.line.now text c.args.by_rules c.args.limit c.args.left c.get.result c.get-2.result c.answers_mut.result.now c.run_part.new.self c.in_ok-part.part c.front.result.now
    is c.requires c.get.ensures.value c.get-2.ensures.value c.get-2.ensures.range c.answers_mut.ensures.value c.in_ok-part.ensures c.if-part.false c.front.ensures.front c.in_ok-keep_line.ensures
