-- The task is that of the matches; a refusal is one for memory or has its fault among those of the words.
use Rattle.std.proofs.Common.{◌≡◌, ◌∙◌, [], ap, subst, sym, inl, inr, true}
use Rattle.std.proofs.lemmas.Result.{IfErr-weaker, IfOk-weaker}
use Rattle.std.specs.Prelude.{List, map}
use Rattle.std.specs.String.{string_bytes}
use Rattle.clap.specs.Words.{App, IsAmong, Text, fault_of, is_simple, is_simple_and_free, kind_of, subcommand_of, takes}
use Rattle.lgp_task.specs.CommandLine.{command_line}
use Rattle.lgp_task.specs.Task.{IsRefusalOf, task_in}
use Rattle.lgp_task.specs.declared.task.TaskFault.{TaskFault}
use Rattle.lgp_task.proofs.RefusalLemmas.{line-free, line-simple, refusal-among}
use Rattle.lgp_task.proofs.task.task_of.Goals as goal

pub returns-in-Ok-clause-task : goal.returns-in-Ok-clause-task
returns-in-Ok-clause-task g c =
    let words : List Text = map string_bytes c.args.words.now in
    let held = c.in-Ok.ensures.matches (ap is_simple c.in_ok-line.ensures ∙ line-simple) in
    IfOk-weaker c.matched_task.result _ _ (λ task e. e ∙ ap task_in (held.1 ∙ ap (λ (a : App). subcommand_of a words) c.in_ok-line.ensures)) c.matched_task.ensures.task

pub returns-in-Ok-clause-asked : goal.returns-in-Ok-clause-asked
returns-in-Ok-clause-asked g c =
    let words : List Text = map string_bytes c.args.words.now in
    let Faultless : App → Type 0 = λ line. fault_of line words ≡ [] in
    IfOk-weaker c.matched_task.result _ _ (λ _ _. subst Faultless c.in_ok-line.ensures (c.in-Ok.ensures.kinds (ap is_simple_and_free c.in_ok-line.ensures ∙ line-free))) c.matched_task.ensures.task

pub returns-in-Ok-clause-memory : goal.returns-in-Ok-clause-memory
returns-in-Ok-clause-memory g c = λ _. c.matched_task.ensures.memory

pub returns-in-Ok-clause-cause : goal.returns-in-Ok-clause-cause
returns-in-Ok-clause-cause g c =
    let Refuses : TaskFault g.row.A.Denot → Type 0 = λ fault. IsRefusalOf (fault_of command_line (map string_bytes c.args.words.now)) fault in
    IfErr-weaker c.matched_task.result _ Refuses (λ fault e. subst Refuses (sym e) tt) c.matched_task.ensures.memory

pub returns-in-Err-clause-memory : goal.returns-in-Err-clause-memory
returns-in-Err-clause-memory g c taken =
    let Takes : App → Type 0 = λ line. takes line (map string_bytes c.args.words.now) ≡ true in
    c.refusal.ensures.memory (c.in-Err.ensures.passes (subst Takes (sym c.in_ok-line.ensures) taken))

pub returns-in-Err-clause-cause : goal.returns-in-Err-clause-cause
returns-in-Err-clause-cause g c =
    let words : List Text = map string_bytes c.args.words.now in
    let kinds = fault_of command_line words in
    let kind = kind_of c.in-Err.fault in
    let Refuses : TaskFault g.row.A.Denot → Type 0 = λ fault. IsRefusalOf kinds fault in
    let Among : App → Type 0 = λ line. IsAmong kind (fault_of line words) in
    elim (c.in-Err.ensures.kinds (ap is_simple_and_free c.in_ok-line.ensures ∙ line-free)) [
      | inl memory ↦ subst Refuses (sym (c.refusal.ensures.memory memory)) tt
      | inr among ↦ refusal-among _ _ _ (subst Among c.in_ok-line.ensures among) c.refusal.ensures.cause
    ]
