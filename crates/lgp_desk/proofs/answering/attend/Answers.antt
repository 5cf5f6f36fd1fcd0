use Rattle.lgp_desk.proofs.FileLemmas.{by-none}
use Rattle.lgp_desk.proofs.ServedLemmas.{answered-by, begins-so}
use Rattle.lgp_desk.proofs.ToldLemmas.{broken-none}
use Rattle.lgp_desk.proofs.answering.attend.Goals as goal

pub returns-in_default : goal.returns-in_default
returns-in_default g c = by-none g.F.Files.answer c.args.files.now _ (tt, broken-none _ _ _ _ _)

pub hold-requires : goal.hold-requires
hold-requires g c = begins-so c.args.manner c.in-Ok.desk c.in-Ok.ensures

pub returns : goal.returns
returns g c = answered-by g.F.Files.answer c.args.files.now c.hold.new.files c.args.manner c.in-Ok.desk c.args.names.now _ _ _ _ _ c.hold.result c.in-Ok.ensures c.hold.ensures.held c.hold.ensures.broken c.hold.ensures.cause
