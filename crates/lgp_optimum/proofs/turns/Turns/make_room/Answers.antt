-- A row more: its counts are zeros, as those were that the word showed before.
use Rattle.std.proofs.Common.{◌≡◌, ◌/◌, ◌<◌, ◌++◌, ℕ, List, rules, ap, length, replicate, slice_index, sym, refl}
use Rattle.std.proofs.lemmas.List.{get_or-replicate, length-replicate}
use Rattle.lgp_optimum.specs.OptimumKept.{Turned}
use Rattle.lgp_optimum.proofs.TurnsLemmas.{no_more, same_turns}
use Rattle.lgp_optimum.proofs.turns.Turns.make_room.Goals as goal

abbrev zeros : List ℕ
zeros = replicate 64 0

blank : (k : ℕ) → k < 64 → slice_index zeros k ≡ 0
blank k below = get_or-replicate 64 k 0 0 below

long : length zeros ≡ 64
long = length-replicate {A = ℕ} 64 0

pub returns-in_ok-extend_from_slice-clause-same : goal.returns-in_ok-extend_from_slice-clause-same
returns-in_ok-extend_from_slice-clause-same g c =
    same_turns c.self.inside.rows.items c.self.inside.counts.items zeros c.from-word.result (c.len-row.result / 64) c.self.invariant (search rules) (search rules) (search rules) long blank
    _ _ (search rules) (search rules) refl (search rules)

pub returns-in_ok-extend_from_slice-clause-counts : goal.returns-in_ok-extend_from_slice-clause-counts
returns-in_ok-extend_from_slice-clause-counts g c = λ at.
    let grown : c.extend_from_slice.new.self.items ≡ c.self.inside.counts.items ++ zeros = search rules in
    let old : c.args.self.now.counts ≡ c.self.inside.counts.items = sym (ap (λ (t : Turned). t.counts) c.self.view_is) in
    rw (grown, old)
    (no_more c.self.inside.rows.items c.self.inside.counts.items zeros c.from-word.result (c.len-row.result / 64) c.self.invariant (search rules) (search rules) (search rules) long blank at)
