-- Part of the public promise: the refusals of an assembly. This project's own choice.
use Rattle.std.specs.Prelude.{List}
use Rattle.lgp_assembler.specs.declared.refusal.Fault.{Fault}
use Rattle.lgp_assembler.specs.declared.refusal.AssembleError.{AssembleError}
use Rattle.lgp_assembler.specs.declared.refusal.AssembleError.TheVariants.{Faults, Memory}

-- where the refusal tells faults, they are as P says
abbrev pub IfFaults : {A : Type 0} → AssembleError A → (List Fault → Type 0) → Type 0
IfFaults (Faults faults) P = P faults
IfFaults Memory P = Unit {0}
