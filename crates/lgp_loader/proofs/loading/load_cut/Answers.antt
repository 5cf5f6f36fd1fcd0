-- The tape that was read is the load's, and leaves the program over what was there.
use Rattle.std.proofs.Common.{subst, sym}
use Rattle.lgp_loader.specs.Loading.{TapeLoad}
use Rattle.lgp_loader.specs.Loads.{IsLoad}
use Rattle.lgp_loader.proofs.Loads.{same_load}
use Rattle.lgp_loader.proofs.Program.{program_read}
use Rattle.lgp_loader.proofs.loading.load_cut.Goals as goal

pub returns-clause-load : goal.returns-clause-load
returns-clause-load g c =
    let before = g.M.Operate.configuration c.args.machine.now in
    let after = g.M.Operate.configuration c.read.new.machine in
    let same = same_load _ _ _ c.in-Ok.ensures.tape c.in-Ok.ensures.orders in
    subst (λ (load : TapeLoad). IsLoad load before after c.read.result) (sym same) c.read.ensures.load

pub returns-clause-program : goal.returns-clause-program
returns-clause-program g c =
    program_read _ _ _ _ _ c.read.ensures.load c.look.ensures.drum c.in-Ok.ensures.program
