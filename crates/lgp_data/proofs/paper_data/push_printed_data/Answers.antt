use Rattle.std.proofs.Common.{◌≤◌, arith, length}
use Rattle.std.proofs.lemmas.List.{append-nil, drop_all}
use Rattle.lgp_data.specs.ShowData.{codes_in, printed_in}
use Rattle.lgp_data.proofs.paper_data.push_printed_data.Goals as goal

pub returns-then-from-printed : goal.returns-then-from-printed
unfolding printed_in codes_in
returns-then-from-printed g c =
    let within : length c.args.printed.now ≤ c.args.from = omega arith in
    let none = drop_all c.args.from c.args.printed.now within in
    rw none (rw append-nil)
