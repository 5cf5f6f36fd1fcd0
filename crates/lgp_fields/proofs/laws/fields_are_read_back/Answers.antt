use Rattle.std.proofs.Common.{◌∷◌}
use Rattle.lgp_fields.specs.Printed.{field_json, value_json}
use Rattle.lgp_fields.proofs.PieceLemmas.{field_back}
use Rattle.lgp_fields.proofs.ReadBackLaws.{text_back_in}
use Rattle.lgp_fields.proofs.laws.fields_are_read_back.Goals as goal

pub returns-clause-pieces : goal.returns-clause-pieces
returns-clause-pieces c = field_back

pub returns-clause-key : goal.returns-clause-key
unfolding field_json
returns-clause-key c = λ field bytes. text_back_in field.key (58 ∷ value_json field.value) bytes
