-- Part of the public promise: the word of one operation by itself. This project's own choice.
use Rattle.std.specs.Prelude.{ℕ, ◌&&◌, nat_le, Bool, if◌then◌else◌, List, Option, None, Some}
use Rattle.std.specs.Prelude.{Result, Ok, Err}
use Rattle.std.specs.Option.{option_map_or}
use Rattle.lgp_assembler.specs.declared.operations.Operation.{Operation}
use Rattle.lgp_assembler.specs.declared.operands.Meaning.TheVariants.{Cell}
use Rattle.lgp_assembler.specs.declared.operands.OperandFault.{OperandFault}
use Rattle.lgp_assembler.specs.declared.operands.OperandFault.TheVariants.{Misformed}
use Rattle.lgp_assembler.specs.Operands.{MeaningOrFault, meaning_of}
use Rattle.lgp_assembler.specs.Parts.{NameList}
use Rattle.lgp_assembler.specs.Operations.{least_operands, most_operands, operation_of}

abbrev pub operands_given : Option (List ℕ) → Option (List ℕ) → ℕ
operands_given None second = 0
operands_given (Some first) None = 1
operands_given (Some first) (Some second) = 2

abbrev pub takes : Operation → ℕ → Bool
takes operation count =
    nat_le (least_operands operation) count && nat_le count (most_operands operation)

-- the word that operands stand for, where they stand for one
abbrev pub word_meant : MeaningOrFault → Result ℕ OperandFault
word_meant (Ok (Cell word)) = Ok word
word_meant (Ok other) = Err Misformed
word_meant (Err fault) = Err fault

-- the word of an operation, named as in a source, with its operands in a place, where it is one and
-- takes that many
unfoldable pub operation_word : NameList → ℕ → List ℕ → Option (List ℕ) → Option (List ℕ)
    → Result ℕ OperandFault
operation_word names place name first second =
    option_map_or (λ operation.
    if takes operation (operands_given first second)
    then word_meant (meaning_of names place operation first second)
    else Err Misformed)
    (operation_of name) (Err Misformed)
