use Rattle.std.proofs.Common.{Some, ap, sym, ◌∙◌}
use Rattle.lgp_desk.specs.Desk.{Seat}
use Rattle.lgp_desk.proofs.OpenLemmas.{next-at}
use Rattle.lgp_desk.proofs.desk.Desk.next_line.Goals as goal

pub returns : goal.returns
returns g c =
    next-at c.args.self.now _ c.in-Some.file c.next_line.new.self c.next_line.result (sym (ap (λ (seat : Seat). seat.inner) c.self.view_is) ∙ c.in-Some.is) c.next_line.ensures.next
    (ap (λ (seat : Seat). record seat { inner = Some c.next_line.new.self }) c.self.view_is)
