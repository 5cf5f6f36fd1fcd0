use Rattle.std.proofs.Common.{ap, ◌∙◌}
use Rattle.std.specs.Str.{bytes_eq}
use Rattle.std.specs.Map.{lookup}
use Rattle.lgp_assembler.proofs.NameLookups.{lookup_seen}
use Rattle.lgp_assembler.proofs.name_table.NamesNameValues.value.Goals as goal

pub returns : goal.returns
returns g c =
    c.copied.ensures ∙ c.get.ensures.value ∙ lookup_seen c.args.name.now c.self.inside.entries.entries ∙ ap (lookup (bytes_eq c.args.name.now)) c.self.view_is
