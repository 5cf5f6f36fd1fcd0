-- No name of a button stands for a key.
use Rattle.std.proofs.Common.{◌≡◌, ℕ, ◌&&◌, Bool, true, false, cond, Some, None, List, [], ◌∷◌, refl, sym, ap, ◌∙◌}
use Rattle.std.specs.List.{list_all}
use Rattle.std.specs.Map.{lookup}
use Rattle.std.specs.Str.{bytes_eq}
use Rattle.lgp_table.specs.declared.action.Action.{Action}
use Rattle.lgp_command.specs.Names.{button_names}
use Rattle.lgp_command.specs.Operands.{is_button}

both : (one other : Bool) → (one && other) ≡ true → (one ≡ true) × (other ≡ true)
both true other e = (refl, e)
both false other e = absurd (clash e) where
  clash : false ≡ true → ⊥
  clash e = cc

-- an action that a list of buttons has for a name
found : (names : List (List ℕ × Action)) (name : List ℕ) (action : Action) → list_all (λ known. is_button known.1) names ≡ true
    → lookup (bytes_eq name) names ≡ Some action → is_button action ≡ true
found [] name action all is = absurd (clash is) where
  clash : None ≡ Some action → ⊥
  clash e = cc
found (known ∷ names) name action all is =
    let parts = both (is_button known.1) (list_all (λ known. is_button known.1) names) all in
    by_test (bytes_eq name known.0) is parts.0 (λ later. found names name action parts.1 later) where
      by_test : (same : Bool) → cond same (Some known.1) (lookup (bytes_eq name) names) ≡ Some action → is_button known.1 ≡ true
          → (lookup (bytes_eq name) names ≡ Some action → is_button action ≡ true) → is_button action ≡ true
      by_test true is first later =
          let same : known.1 ≡ action = cc in
          ap is_button (sym same) ∙ first
      by_test false is first later = later is

pub button_found : (name : List ℕ) (action : Action) → lookup (bytes_eq name) button_names ≡ Some action → is_button action ≡ true
button_found name action is = found button_names name action refl is
