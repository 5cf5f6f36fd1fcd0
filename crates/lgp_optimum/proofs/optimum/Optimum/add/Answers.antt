-- The order before it is settled, and this one's wait is what is left open.
use Rattle.std.proofs.Common.{◌≡◌, ◌∙◌, ℕ, ◌+◌, ap, sym, subst, List, Option, option_map}
use Rattle.lgp_table.specs.Activity.{next}
use Rattle.lgp_table.specs.After.{after}
use Rattle.lgp_trace.specs.Account.{found_of, operand_in}
use Rattle.lgp_optimum.specs.OptimumInside.{seek_with}
use Rattle.lgp_optimum.specs.OptimumKept.{AreUsesOf, Kept, seek_of, turns_at}
use Rattle.lgp_trace.specs.Phases.{all_phases, phases_of}
use Rattle.lgp_optimum.specs.TurnsInside.{is_last_late, one_turn_if}
use Rattle.lgp_trace.specs.declared.account.Operand.{Operand}
use Rattle.lgp_trace.specs.declared.phases.Phases.{Phases}
use Rattle.lgp_optimum.specs.declared.uses.Use.{Use}
use Rattle.lgp_optimum.proofs.OptimumLemmas.{optimum_more, seek_with_found}
use Rattle.lgp_optimum.proofs.optimum.Optimum.add.Goals as goal

pub returns : goal.returns
returns g c = record {
  of_run = λ s count h works clock place phases operand.
      let now = after s count in
      let waited : Option Operand = option_map (operand_in (next now).core) (found_of now) in
      let took : c.self.inside.took ≡ c.args.self.now.took + all_phases (phases_of now) =
      ap (λ (k : Kept). k.took) c.self.view_is ∙ c.settle.ensures.took ∙ ap (λ (p : Phases). c.args.self.now.took + all_phases p) phases in
      let last : c.seek_in-self-inside.result ≡ seek_of now =
      c.seek_in-self-inside.ensures ∙ ap (λ (o : Option Operand). seek_with o c.args.account.now.before.clock c.args.account.now.phases) operand
      ∙ ap (λ (n : ℕ). seek_with waited n c.args.account.now.phases) clock ∙ ap (λ (p : Phases). seek_with waited now.clock p) phases
      ∙ seek_with_found (found_of now) (next now).core now.clock (phases_of now) in
      let uses : AreUsesOf c.self.inside.uses s count =
      subst (λ (u : List Use). AreUsesOf u s count) (sym (ap (λ (k : Kept). k.uses) c.self.view_is ∙ c.settle.ensures.uses)) h.uses in
      optimum_more c.args.self.now _ s count h works took
      (λ word sector on_drum on_track. ap (λ (k : Kept). turns_at k.turned word sector) c.self.view_is ∙ c.settle.ensures.turns word sector on_drum on_track
      ∙ ap (λ (p : Option ℕ). turns_at c.args.self.now.turned word sector + one_turn_if (is_last_late c.args.self.now.last p word sector)) place)
      last (c.note.ensures s count uses place operand);
}
