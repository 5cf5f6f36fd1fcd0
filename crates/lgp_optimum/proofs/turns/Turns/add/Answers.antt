use Rattle.lgp_trace.proofs.Sums.{sums}
-- One turn more in the counts of a row is one more of its word.
use Rattle.std.proofs.Common.{◌≡◌, ◌∙◌, ◌*◌, ℕ, List, ap, arith, length, rules, slice_index, sym}
use Rattle.std.proofs.lemmas.Grind.{common_steps}
use Rattle.std.specs.Vec.{with_items}
use Rattle.std.proofs.lemmas.List.{with_items_is}
use Rattle.lgp_optimum.specs.OptimumKept.{Turned}
use Rattle.lgp_optimum.specs.TurnsInside.{is_late}
use Rattle.lgp_optimum.proofs.TurnsLemmas.{word_turns}
use Rattle.lgp_optimum.proofs.turns.Turns.add.Goals as goal

pub returns-clause-turns : goal.returns-clause-turns
returns-clause-turns g c = λ other sector below on_track.
    let old_rows : c.args.self.now.rows ≡ c.self.inside.rows.items = sym (ap (λ (t : Turned). t.rows) c.self.view_is) in
    let old_counts : c.args.self.now.counts ≡ c.self.inside.counts.items = sym (ap (λ (t : Turned). t.counts) c.self.view_is) in
    let first : c.first_of-first.result ≡ 64 * slice_index c.self.inside.rows.items c.args.word = c.first_of-first.ensures.first ∙ ap (λ (l : List ℕ). 64 * slice_index l c.args.word) old_rows in
    let whole : (with_items c.self.inside.counts c.add_turns.new.counts).items ≡ c.add_turns.new.counts = with_items_is c.self.inside.counts _ (omega (arith, c.add_turns.ensures.length, c.deref_mut.ensures.len, ap length c.deref_mut.ensures.value)) in
    rw (whole, old_rows, old_counts) (word_turns c.self.inside.rows.items c.self.inside.counts.items c.add_turns.new.counts c.args.word (is_late c.args.room c.args.begun)
    c.self.invariant (search rules) (search rules) (rw (sym first, sym c.deref_mut.ensures.value) c.add_turns.ensures.turns) other sector below on_track)

pub invariant_of-self : goal.invariant_of-self
invariant_of-self g c = grind (arith, common_steps, sums)

pub returns-clause-length : goal.returns-clause-length
returns-clause-length g c = grind (arith, common_steps, sums)

pub returns-clause-one : goal.returns-clause-one
returns-clause-one g c = grind (arith, common_steps, sums)
