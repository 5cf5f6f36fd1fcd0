use Rattle.std.proofs.Common.{◌≡◌, ◌∙◌, Err, Some, ap, rules}
use Rattle.std.specs.Result.{result_map_both}
use Rattle.lgp_desk.specs.Desk.{Wanted}
use Rattle.lgp_desk.proofs.FileLemmas.{err-always, ok-both}
use Rattle.lgp_desk.proofs.GrantLemmas.{name-wanted, read-begun, read-cut, read-granted}
use Rattle.lgp_desk.proofs.answering.grant_read.Goals as goal

pub returns-in_err-read-clause-begun : goal.returns-in_err-read-clause-begun
returns-in_err-read-clause-begun g c = λ wish.
    let named : (wanted : Wanted) → c.args.desk.now.wanted ≡ Some wanted → c.unwrap_or.result.now ≡ wanted.name =
    λ wanted is. ap (λ it. it.now) c.unwrap_or.ensures ∙ name-wanted (λ it. it.now) c.file_name.result _ c.args.desk.now.wanted wanted is c.file_name.ensures in
    let same : c.from_residual.result ≡ Err c.in_err-read.field-0.0 = search rules in
    rw same (read-cut g.F.Files.answer c.args.files.now c.read_file.new.files c.args.desk.now c.unwrap_or.result.now wish named c.in_err-read.ensures.memory)

pub returns-clause-begun : goal.returns-clause-begun
returns-clause-begun g c = λ wish.
    let named : (wanted : Wanted) → c.args.desk.now.wanted ≡ Some wanted → c.unwrap_or.result.now ≡ wanted.name =
    λ wanted is. ap (λ it. it.now) c.unwrap_or.ensures ∙ name-wanted (λ it. it.now) c.file_name.result _ c.args.desk.now.wanted wanted is c.file_name.ensures in
    err-always c.found.result _ (read-begun g.F.Files.answer c.args.files.now c.read_file.new.files c.args.desk.now c.unwrap_or.result.now
    (result_map_both (λ text. text.items) (λ trouble. trouble) c.in_ok-read.read) wish named c.in_ok-read.ensures.found)

pub returns-clause-granted : goal.returns-clause-granted
returns-clause-granted g c = λ wish.
    let named : (wanted : Wanted) → c.args.desk.now.wanted ≡ Some wanted → c.unwrap_or.result.now ≡ wanted.name =
    λ wanted is. ap (λ it. it.now) c.unwrap_or.ensures ∙ name-wanted (λ it. it.now) c.file_name.result _ c.args.desk.now.wanted wanted is c.file_name.ensures in
    ok-both c.found.result _ _ _ (λ text text_is after_is. read-granted g.F.Files.answer c.args.files.now c.read_file.new.files c.args.desk.now c.unwrap_or.result.now
    (result_map_both (λ text. text.items) (λ trouble. trouble) c.in_ok-read.read) wish named c.in_ok-read.ensures.found c.found.new.self text.items text_is after_is) c.found.ensures.text c.found.ensures.after
