use Rattle.std.proofs.Common.{◌∙◌, ap}
use Rattle.lgp_table.specs.After.{after}
use Rattle.lgp_table.specs.Interleaving.{Configuration, at_boundary}
use Rattle.lgp_keyin.specs.KeyIn.{about_to_jump, started}
use Rattle.lgp_loader.specs.Loading.{load_with}
use Rattle.lgp_assembler.specs.Parts.{loader_base}
use Rattle.lgp_loader.proofs.Ready.{at_false, past_by_jump, past_by_keying, past_by_order}
use Rattle.lgp_loader.proofs.Stopped.{own_boundary, stops_in_jump, stops_in_order, stops_in_store}
use Rattle.lgp_loader.proofs.loading.load_tape.Goals as goal

-- about to store a word of the loader

pub returns-then-not-prepare-clause-past : goal.returns-then-not-prepare-clause-past
returns-then-not-prepare-clause-past g c =
    past_by_keying (g.M.Operate.configuration c.args.machine.now).state _ c.if-not-prepare.ensures.past

pub returns-then-not-prepare-clause-stands : goal.returns-then-not-prepare-clause-stands
returns-then-not-prepare-clause-stands g c =
    stops_in_store _ _
    _ c.if-not-prepare.ensures.stands c.if-not-prepare.ensures.within c.if-not-prepare.ensures.clock_end

pub returns-then-not-prepare-clause-own : goal.returns-then-not-prepare-clause-own
returns-then-not-prepare-clause-own g c =
    let stands = c.if-not-prepare.ensures.stands in
    own_boundary _
    _ stands.2

-- about to start it

pub returns-then-not-begin-clause-past : goal.returns-then-not-begin-clause-past
returns-then-not-begin-clause-past g c =
    let at = c.if-not-begin.ensures.stands ∙ ap (λ (now : Configuration). at_boundary (about_to_jump now.state loader_base)) c.if-not-prepare.ensures.prepared in
    past_by_jump _ (g.M.Operate.configuration c.args.machine.now).state _ at c.if-not-begin.ensures.clock_end

pub returns-then-not-begin-clause-stands : goal.returns-then-not-begin-clause-stands
returns-then-not-begin-clause-stands g c =
    let at = c.if-not-begin.ensures.stands ∙ ap (λ (now : Configuration). at_boundary (about_to_jump now.state loader_base)) c.if-not-prepare.ensures.prepared in
    stops_in_jump _ _ _ at
    c.if-not-begin.ensures.within c.if-not-begin.ensures.clock_end

pub returns-then-not-begin-clause-own : goal.returns-then-not-begin-clause-own
returns-then-not-begin-clause-own g c =
    own_boundary _
    _ c.if-not-begin.ensures.stands

-- about to perform one of its orders

pub returns-clause-past : goal.returns-clause-past
returns-clause-past g c =
    let s = (g.M.Operate.configuration c.args.machine.now).state in
    let first = ap (λ (now : Configuration). now.state) c.if-not-begin.ensures.begun
    ∙ ap (λ (now : Configuration). started now.state loader_base) c.if-not-prepare.ensures.prepared in
    at_false _ c.perform.ensures.stands c.perform.ensures.clock_end
    (λ (done, less, at) past. past_by_order _ s _ (done, less, at ∙ ap (λ t. at_boundary (after t done)) first) past)

pub returns-clause-stands : goal.returns-clause-stands
returns-clause-stands g c =
    let s = (g.M.Operate.configuration c.args.machine.now).state in
    let load = load_with c.args.loader.now c.args.tape.items c.args.orders in
    let first = ap (λ (now : Configuration). now.state) c.if-not-begin.ensures.begun
    ∙ ap (λ (now : Configuration). started now.state loader_base) c.if-not-prepare.ensures.prepared in
    let now = g.M.Operate.configuration c.perform.new.machine in
    at_false c.perform.result c.perform.ensures.stands (at_false c.perform.result c.perform.ensures.within c.perform.ensures.clock_end (λ within past. (within, past)))
    (λ (done, less, at) (within, past). stops_in_order s load now (done, less, at ∙ ap (λ t. at_boundary (after t done)) first) within past)

pub returns-clause-own : goal.returns-clause-own
returns-clause-own g c =
    at_false _ c.perform.ensures.stands c.perform.ensures.within
    (λ (done, less, at) within. own_boundary _ _ at)
