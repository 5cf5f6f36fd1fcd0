use Rattle.std.proofs.Common.{◌≡◌, ◌++◌, ◌∷◌, [], None, ap, ◌∙◌}
use Rattle.std.specs.Str.{bytes_eq}
use Rattle.std.specs.Map.{lookup}
use Rattle.lgp_assembler.specs.NameTableInside.{names_seen}
use Rattle.lgp_assembler.proofs.NameLookups.{insert_seen}
use Rattle.lgp_assembler.proofs.name_table.Names.add.Goals as goal

pub returns-clause-ok : goal.returns-clause-ok
returns-clause-ok g c =
    let entries = c.self.inside.entries.entries in
    let none : lookup (bytes_eq c.args.name.now) (names_seen entries) ≡ None = ap (lookup (bytes_eq c.args.name.now)) {x = names_seen entries} c.self.view_is ∙ c.requires in
    ap names_seen c.in_ok-insert.ensures.entries ∙ insert_seen _ _ _ none ∙ ap (λ names. names ++ (c.args.name.now, c.args.value) ∷ []) {x = names_seen entries} c.self.view_is
