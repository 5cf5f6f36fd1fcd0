use Rattle.std.proofs.Common.{rules, ◌≡◌, ◌≤◌, ◌+◌, IsTrue, length, refl, subst}
use Rattle.lgp_table.specs.Interleaving.{at_boundary, is_boundary}
use Rattle.lgp_table.specs.Activity.{next}
use Rattle.lgp_keyin.specs.KeyIn.{about_to_store}
use Rattle.lgp_keyin.proofs.Progress.{item_at, none_keyed, one_more_keyed, passes, shows_next}
use Rattle.lgp_keyin.proofs.keying.key_in.Goals as goal

pub loop-word-init : goal.loop-word-init
loop-word-init g c =
    let old = g.M.Operate.configuration c.args.machine.now in
    let boundary : IsTrue (is_boundary old) = search rules in
    none_keyed _ _ _ _ boundary c.press.ensures.state (search rules)

pub returns-then-not-store-clause-clock_end : goal.returns-then-not-store-clause-clock_end
returns-then-not-store-clause-clock_end g c =
    let old = g.M.Operate.configuration c.args.machine.now in
    let now = g.M.Operate.configuration c.loop-word.machine in
    let then = g.M.Operate.configuration c.store.new.machine in
    let words = c.args.words.now in
    let boundary : IsTrue (is_boundary old) = search rules in
    let fits : c.args.base + length words ≤ 4096 = search rules in
    let less = c.loop-word-test.true in
    let item = item_at _ _ _ less c.word-item.is in
    let stands = subst (λ word. then ≡ at_boundary (about_to_store now.state c.loop-word.address word)) item c.if-not-store.ensures.stands in
    let past = passes now then old.state c.args.base words c.loop-word.word-index c.loop-word.address c.loop-word.invariant less fits stands c.if-not-store.ensures.clock_end in
    (λ same. (boundary, fits, past), λ passes. refl)

pub returns-then-not-store-clause-executing : goal.returns-then-not-store-clause-executing
returns-then-not-store-clause-executing g c =
    let now = g.M.Operate.configuration c.loop-word.machine in
    let then = g.M.Operate.configuration c.store.new.machine in
    let words = c.args.words.now in
    let fits : c.args.base + length words ≤ 4096 = search rules in
    let less = c.loop-word-test.true in
    let shows = shows_next _ then _ _ _ _ _ _ c.loop-word.invariant less fits c.if-not-store.ensures.stands c.if-not-store.ensures.word in
    λ same. shows.0

pub returns-then-not-store-clause-register : goal.returns-then-not-store-clause-register
returns-then-not-store-clause-register g c =
    let now = g.M.Operate.configuration c.loop-word.machine in
    let then = g.M.Operate.configuration c.store.new.machine in
    let words = c.args.words.now in
    let fits : c.args.base + length words ≤ 4096 = search rules in
    let less = c.loop-word-test.true in
    let shows = shows_next _ then _ _ _ _ _ _ c.loop-word.invariant less fits c.if-not-store.ensures.stands c.if-not-store.ensures.word in
    λ same. (c.loop-word.word-index, less, shows.1)

pub loop-word-preserved : goal.loop-word-preserved
loop-word-preserved g c =
    let now = g.M.Operate.configuration c.loop-word.machine in
    let then = g.M.Operate.configuration c.store.new.machine in
    let words = c.args.words.now in
    let fits : c.args.base + length words ≤ 4096 = search rules in
    let less = c.loop-word-test.true in
    let item = item_at _ _ _ less c.word-item.is in
    let stored = subst (λ word. then ≡ at_boundary (next (about_to_store now.state c.loop-word.address word))) item c.if-not-store.ensures.stored in
    let more = one_more_keyed _ _ _ _ _ _ _ c.loop-word.invariant less fits stored c.if-not-store.ensures.up c.if-not-store.ensures.clock in
    rw c.next-address.ensures more
