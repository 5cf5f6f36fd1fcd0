use Rattle.std.proofs.Common.{◌≡◌, IfOk, List, ℕ, ap, subst, sym, ◌∙◌}
use Rattle.lgp_desk.specs.Desk.{Seat}
use Rattle.lgp_desk.proofs.OpenLemmas.{note-of}
use Rattle.lgp_desk.proofs.desk.Desk.note.Goals as goal

pub returns-in-Some : goal.returns-in-Some
returns-in-Some g c =
    subst (λ (text : List ℕ). IfOk c.note.result (λ note. note.items ≡ text))
    (note-of c.args.self.now c.in-Some.file (sym (ap (λ (seat : Seat). seat.inner) c.self.view_is) ∙ c.in-Some.is)) c.note.ensures
