-- Serves proofs only: what stays where only room was made, and the wait of an order by its account.
use Rattle.std.specs.Prelude.{◌≡◌, ℕ, ◌+◌, Option, Some, None}
use Rattle.lgp_optimum.specs.OptimumKept.{Kept}
use Rattle.lgp_optimum.specs.TurnsInside.{SameTurns}
use Rattle.lgp_trace.specs.declared.account.Operand.{Operand}
use Rattle.lgp_optimum.specs.declared.optimum.Seek.{Seek}
use Rattle.lgp_trace.specs.declared.phases.Phases.{Phases}

pub record ShowsSame (old new : Kept) : Type 0 where
  pub took : new.took ≡ old.took
  pub turned : SameTurns old.turned new.turned
  pub last : new.last ≡ old.last
  pub uses : new.uses ≡ old.uses

abbrev pub seek_with : Option Operand → ℕ → Phases → Option Seek
seek_with None clock phases = None
seek_with (Some operand) clock phases = Some (record {
  word = operand.address;
  begun = clock + phases.find + phases.take;
  act = phases.act;
})
