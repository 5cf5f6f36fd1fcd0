use Rattle.std.specs.Result.{result_map_both}
use Rattle.lgp_desk.proofs.FileLemmas.{cut-so, found-so, if-err, if-ok}
use Rattle.lgp_desk.proofs.files.read_file.Goals as goal

pub returns-clause-found : goal.returns-clause-found
returns-clause-found g c =
    if-ok c.read_whole-read.result _ _
    (λ read given. found-so g.F.Files.answer c.args.files.now c.open.new.self c.read_whole-read.new.files c.close.new.self c.args.name.now c.in-Ok.name.now c.in-Ok.ensures.cases.0 c.in-Ok.ensures.cases.1 c.if-not-open.ensures c.close.ensures
    (result_map_both (λ text. text.items) (λ trouble. trouble) read) given) c.read_whole-read.ensures.given

pub returns-clause-memory : goal.returns-clause-memory
returns-clause-memory g c =
    if-err c.read_whole-read.result _ _
    (λ error gave. cut-so g.F.Files.answer c.args.files.now c.open.new.self c.read_whole-read.new.files c.close.new.self c.args.name.now c.in-Ok.name.now c.in-Ok.ensures.cases.0 c.in-Ok.ensures.cases.1 c.if-not-open.ensures c.close.ensures gave) c.read_whole-read.ensures.memory
