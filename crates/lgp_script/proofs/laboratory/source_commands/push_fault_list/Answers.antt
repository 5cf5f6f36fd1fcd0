use Rattle.std.proofs.Common.{append_assoc, refl}
use Rattle.lgp_script.proofs.laboratory.source_commands.push_fault_list.Goals as goal

pub returns : goal.returns
returns g c = simp (c.in_ok-push_faults.ensures, c.in_ok-extend_from_slice.ensures.items, append_assoc) refl
