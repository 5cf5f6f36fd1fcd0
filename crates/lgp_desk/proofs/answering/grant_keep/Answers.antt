use Rattle.std.proofs.Common.{◌≡◌, ◌∙◌, Some, ap}
use Rattle.lgp_desk.specs.Desk.{Wanted}
use Rattle.lgp_desk.proofs.FileLemmas.{err-always, ok-both}
use Rattle.lgp_desk.proofs.GrantLemmas.{keep-begun, keep-granted, name-wanted}
use Rattle.lgp_desk.proofs.answering.grant_keep.Goals as goal

pub returns-clause-granted : goal.returns-clause-granted
returns-clause-granted g c = λ wish.
    let named : (wanted : Wanted) → c.args.desk.now.wanted ≡ Some wanted → c.unwrap_or.result.now ≡ wanted.name =
    λ wanted is. ap (λ it. it.now) c.unwrap_or.ensures ∙ name-wanted (λ it. it.now) c.file_name.result _ c.args.desk.now.wanted wanted is c.file_name.ensures in
    ok-both c.kept.result _ _ _ (λ said said_is after_is. keep-granted g.F.Files.answer c.args.files.now c.keep_file-kept.new.files c.args.desk.now c.args.made c.unwrap_or.result.now c.deref.result.now
    c.keep_file-kept.result wish named (c.deref.ensures.value ∙ c.in_ok-text.ensures) c.keep_file-kept.ensures c.kept.new.self said.items said_is after_is) c.kept.ensures.text c.kept.ensures.after

pub returns-clause-begun : goal.returns-clause-begun
returns-clause-begun g c = λ wish.
    let named : (wanted : Wanted) → c.args.desk.now.wanted ≡ Some wanted → c.unwrap_or.result.now ≡ wanted.name =
    λ wanted is. ap (λ it. it.now) c.unwrap_or.ensures ∙ name-wanted (λ it. it.now) c.file_name.result _ c.args.desk.now.wanted wanted is c.file_name.ensures in
    err-always c.kept.result _ (keep-begun g.F.Files.answer c.args.files.now c.keep_file-kept.new.files c.args.desk.now c.args.made c.unwrap_or.result.now c.deref.result.now
    c.keep_file-kept.result wish named (c.deref.ensures.value ∙ c.in_ok-text.ensures) c.keep_file-kept.ensures)
