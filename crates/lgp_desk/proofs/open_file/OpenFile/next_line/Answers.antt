use Rattle.std.proofs.Common.{◌≡◌, ◌+◌, ◌-◌, List, ℕ, drop, length, ap, sym, ◌∙◌, arith}
use Rattle.std.specs.Prelude.{vec_len}
use Rattle.std.specs.Str.Lines.{lines}
use Rattle.lgp_desk.specs.Desk.{Opened}
use Rattle.lgp_desk.proofs.OpenLemmas.{left-after, opened-same}
use Rattle.lgp_desk.proofs.open_file.OpenFile.next_line.Goals as goal

pub returns : goal.returns
returns g c =
    let inside = c.self.inside in
    let first = c.first_line-first.ensures in
    let size : length inside.text.items ≡ vec_len inside.text = sym (ap length c.deref.ensures.value) ∙ c.deref.ensures.len in
    let end : c.end_of.result.now ≡ drop (vec_len inside.text - inside.left) inside.text.items =
    c.end_of.ensures ∙ (ap (λ (n : ℕ). drop (n - inside.left) c.deref.result.now) c.deref.ensures.len ∙ ap (λ (all : List ℕ). drop (vec_len inside.text - inside.left) all) c.deref.ensures.value) in
    let later : lines (drop (vec_len inside.text - length c.first_line-first.result.rest.now) inside.text.items) ≡ lines c.first_line-first.result.rest.now =
    left-after inside.text.items c.end_of.result.now c.first_line-first.result.rest.now (vec_len inside.text) inside.left c.first_line-first.result.line size (omega (arith, c.self.invariant)) end first.line first.shorter in
    record {
      next = (
        first.line.first,
        lines c.first_line-first.result.rest.now,
        sym (ap (λ (file : Opened). file.left) c.self.view_is) ∙ (ap lines (sym end) ∙ first.line.lines_are),
        first.line.is_kept,
        opened-same _ _ (ap (λ (file : Opened). file.name) c.self.view_is) (ap (λ (file : Opened). file.number + 1) c.self.view_is) later,
      );
    }
