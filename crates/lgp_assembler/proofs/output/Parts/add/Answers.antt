use Rattle.std.proofs.Common.{rules}
use Rattle.lgp_assembler.proofs.output.Parts.add.Goals as goal

pub returns-then-is_none-clause-cells : goal.returns-then-is_none-clause-cells
returns-then-is_none-clause-cells g c = search rules

pub returns-then-is_none-clause-words : goal.returns-then-is_none-clause-words
returns-then-is_none-clause-words g c = search rules

pub returns-else-is_none-clause-cells : goal.returns-else-is_none-clause-cells
returns-else-is_none-clause-cells g c = search rules

pub returns-else-is_none-clause-words : goal.returns-else-is_none-clause-words
returns-else-is_none-clause-words g c = search rules
