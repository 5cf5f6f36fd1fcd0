use Rattle.lgp_fields.proofs.PieceLemmas.{numbers_back, object_back}
use Rattle.lgp_fields.proofs.laws.objects_are_read_back.Goals as goal

pub returns-clause-fields : goal.returns-clause-fields
returns-clause-fields c = object_back

pub returns-clause-numbers : goal.returns-clause-numbers
returns-clause-numbers c = numbers_back
