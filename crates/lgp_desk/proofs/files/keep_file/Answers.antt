use Rattle.lgp_desk.proofs.FileLemmas.{kept-so}
use Rattle.lgp_desk.proofs.files.keep_file.Goals as goal

pub returns-in-Ok : goal.returns-in-Ok
returns-in-Ok g c = kept-so g.F.Files.answer c.args.files.now c.keep.new.self c.args.name.now c.args.text.now c.in-Ok.name.now c.keep.result c.in-Ok.ensures.cases.0 c.in-Ok.ensures.cases.1 c.keep.ensures
