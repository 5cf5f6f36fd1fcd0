-- A map of borrowed texts, and the names that it shows.
use Rattle.std.proofs.Common.{◌≡◌, ℕ, Bool, List, [], ◌∷◌, ◌++◌, None, Some, refl, sym, ap, ◌∙◌, cond, ⊎_elim}
use Rattle.std.specs.Borrow.{Bor}
use Rattle.std.specs.Str.{bytes_eq}
use Rattle.std.specs.Map.{lookup}
use Rattle.std.proofs.lemmas.Bool.{cases_Bool, cond-true, cond-false}
use Rattle.std.proofs.lemmas.Option.{none-some}
use Rattle.indexmap.specs.IndexMap.{insert_entry}
use Rattle.lgp_assembler.specs.NameTableInside.{names_seen, name_seen}

abbrev pub same_text : Bor (List ℕ) → Bor (List ℕ) → Bool
same_text a b = bytes_eq a.now b.now

pub lookup_seen : (name : List ℕ) (entries : List (Bor (List ℕ) × ℕ)) → lookup (λ (key : Bor (List ℕ)). bytes_eq name key.now) entries ≡ lookup (bytes_eq name) (names_seen entries)
lookup_seen name [] = refl
lookup_seen name (e ∷ es) = ap (λ rest. cond (bytes_eq name e.0.now) (Some e.1) rest) (lookup_seen _ es)

pub insert_seen : (name : Bor (List ℕ)) (value : ℕ) (entries : List (Bor (List ℕ) × ℕ)) → lookup (bytes_eq name.now) (names_seen entries) ≡ None
    → names_seen (insert_entry same_text entries name value) ≡ names_seen entries ++ (name.now, value) ∷ []
insert_seen name value [] none = refl
insert_seen name value (e ∷ es) none = ⊎_elim
    (λ same. absurd (none-some e.1 (sym none ∙ cond-true (bytes_eq name.now e.0.now) (Some e.1) (lookup (bytes_eq name.now) (names_seen es)) same)))
    (λ other.
    ap names_seen (cond-false (bytes_eq name.now e.0.now) ((e.0, value) ∷ es) (e ∷ insert_entry same_text es name value) other)
    ∙ ap (λ rest. name_seen e ∷ rest) (insert_seen _ _ es (sym (cond-false (bytes_eq name.now e.0.now) (Some e.1) (lookup (bytes_eq name.now) (names_seen es)) other) ∙ none)))
    (cases_Bool (bytes_eq name.now e.0.now))
