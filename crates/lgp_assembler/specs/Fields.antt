-- Part of the public promise: a line as the assembler sees it. This project's own choice.
use Rattle.std.specs.Prelude.{ℕ, Bool, if◌then◌else◌, List, Option, None, is_some, option_map}
use Rattle.std.specs.Prelude.{option_and_then, slice_index_or}
use Rattle.lgp_source.specs.Source.{SourceLine, SourceToken}
use Rattle.lgp_assembler.specs.declared.operations.Operation.{Operation}
use Rattle.lgp_assembler.specs.Operations.{operation_of}

pub record LineFields : Type 0 where
  pub number : ℕ
  pub is_bad : Bool
  pub label : Option (List ℕ)
  -- whether it has a token for its operation, and the operation where that names one
  pub has_operation : Bool
  pub operation : Option Operation
  pub first : Option (List ℕ)
  pub second : Option (List ℕ)
  -- how many operands it has; 3 stands for more than two
  pub count : ℕ

abbrev pub token_text : SourceToken → List ℕ
token_text token = token.text

abbrev pub token_operation : Option SourceToken → Option Operation
token_operation token = option_and_then (λ t. operation_of t.text) token

abbrev pub operand_at : SourceLine → ℕ → Option (List ℕ)
operand_at line place = option_map token_text (slice_index_or line.operands place None)

abbrev pub operand_count : SourceLine → ℕ
operand_count line =
    if line.extra then 3
    else (if is_some (operand_at line 1) then 2 else (if is_some (operand_at line 0) then 1 else 0))

unfoldable pub fields_of : SourceLine → LineFields
fields_of line = record {
  number = line.number;
  is_bad = is_some line.bad_byte;
  label = option_map token_text line.label;
  has_operation = is_some line.operation;
  operation = token_operation line.operation;
  first = operand_at line 0;
  second = operand_at line 1;
  count = operand_count line;
}
