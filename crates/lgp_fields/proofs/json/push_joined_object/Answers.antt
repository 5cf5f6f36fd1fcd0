use Rattle.std.proofs.Common.{arith}
use Rattle.std.proofs.lemmas.Grind.{common_steps}
use Rattle.lgp_fields.specs.Printed.{record_json}
use Rattle.lgp_fields.proofs.PartLemmas.{fields-append, later-append}
use Rattle.lgp_fields.proofs.json.push_joined_object.Goals as goal

pub returns : goal.returns
unfolding record_json
returns g c = grind (arith, common_steps, fields-append, later-append)
