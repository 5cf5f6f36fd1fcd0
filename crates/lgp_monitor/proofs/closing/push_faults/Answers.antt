use Rattle.std.proofs.Common.{◌≡◌, ◌∙◌, ◌++◌, List, ℕ, ap, codes, flat_map}
use Rattle.std.proofs.lemmas.List.{append_assoc}
use Rattle.std.proofs.lemmas.Result.{on_ok_weaker}
use Rattle.lgp_source.specs.Source.{lines_of}
use Rattle.lgp_monitor.specs.Closing.{marked_fault}
use Rattle.lgp_monitor.proofs.closing.push_faults.Goals as goal

pub returns : goal.returns
returns g c =
    let faults : List ℕ = flat_map (marked_fault (lines_of c.args.source.now)) c.args.faults.now in
    let heading : c.extend_from_slice.new.self.items ≡ c.args.text.now.items ++ codes "? 9 Faults\n" = c.in_ok-extend_from_slice.ensures.items in
    on_ok_weaker c.push_marked_faults.result
    (λ is. is ∙ (ap (λ (t : List ℕ). t ++ faults) heading ∙ append_assoc c.args.text.now.items (codes "? 9 Faults\n") faults))
    c.push_marked_faults.ensures
