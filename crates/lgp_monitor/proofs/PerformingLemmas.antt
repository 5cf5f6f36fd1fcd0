-- A command that is performed with the line that says it kept: what a script's line would do.
use Rattle.std.proofs.Common.{◌≡◌, ◌∙◌, ℕ, None, false, List, [], ◌∷◌, ◌++◌, refl, sym, ap, subst}
use Rattle.std.proofs.Common.{append_assoc}
use Rattle.std.proofs.lemmas.List.{append-nil}
use Rattle.lgp_stream.specs.Language.{IsAnswered}
use Rattle.lgp_stream.specs.Transcript.{Recorded, after_lines, ended, lines_answered, replies_text, with_line, with_state}
use Rattle.lgp_command.specs.CommandText.{command_text}
use Rattle.lgp_command.specs.Sayable.{IsSayable}
use Rattle.lgp_command.specs.declared.command.Command.{Command}
use Rattle.lgp_command.specs.declared.command.Command.TheVariants as commands
use Rattle.lgp_debugger.specs.Debugging.{order_origins}
use Rattle.lgp_monitor.specs.declared.telling.Report.{Report}
use Rattle.lgp_script.specs.HistoryCommands.{orders_run, replied_to_run}
use Rattle.lgp_script.specs.LabState.{Answer, LabState, labels_of}
use Rattle.lgp_script.specs.Reply.{IsReplied, Replied}
use Rattle.lgp_script.specs.ReplyText.{reply_text}
use Rattle.lgp_script.specs.Script.{answer_to_line, opens_source, replied_to, script_language}
use Rattle.lgp_script.specs.declared.reply.Reply.{Reply}
use Rattle.lgp_script.proofs.CommandLaws.{lines_answered as answered_as_command}
use Rattle.lgp_script.proofs.OpenedLaws.{opened_stays}
use Rattle.lgp_script.specs.UntilReply.{IsRepliedUntil}
use Rattle.lgp_script.specs.declared.until_reply.UntilReply.{UntilReply}
use Rattle.lgp_when.specs.Until.{is_done}
use Rattle.lgp_when.specs.declared.until.Until.{Until}
use Rattle.lgp_monitor.specs.Monitor.{answer_to_until, explained_command, told_run}
use Rattle.lgp_monitor.specs.Untils.{is_met, met_text, orders_done, replied_until}
use Rattle.lgp_monitor.specs.Operating.{run_line}
use Rattle.lgp_monitor.specs.PerformingInside.{IsPerformed}
use Rattle.lgp_monitor.specs.Reasons.{explained_text, run_end_text}
use Rattle.lgp_monitor.specs.Telling.{form_of, reported_text}
use Rattle.lgp_monitor.specs.declared.telling.Telling.{Telling}

-- what is written about the orders of a run
abbrev reported_at : LabState → Telling → ℕ → List ℕ
reported_at s telling limit = reported_text telling (labels_of s.source) s.debugger.state (order_origins s.debugger) (orders_run limit s.debugger)

-- the line is kept, the laboratory lent and the command done
pub performed : (r₀ r₁ r₂ : Recorded LabState) (s₁ s₂ : LabState) (command : Command) (text : List ℕ) (said : Reply) → r₀.state.opened ≡ None → IsSayable command
    → r₁ ≡ with_line r₀ (command_text command text) → s₁ ≡ r₁.state → IsReplied said s₂ (replied_to s₁ command text) → r₂ ≡ with_state r₁ s₂
    → IsPerformed r₀ r₂ command text said
unfolding after_lines
performed r₀ r₁ r₂ s₁ s₂ command text said outside sayable kept_line lent done after =
    let line : List ℕ = command_text command text in
    let stood : s₁ ≡ r₀.state = lent ∙ ap (λ (r : Recorded LabState). r.state) kept_line in
    let left : s₂ ≡ (replied_to r₀.state command text).after = done.after ∙ ap (λ (s : LabState). (replied_to s command text).after) stood in
    let stands : s₂ ≡ (answer_to_line r₀.state line).after =
    left ∙ ap (λ (a : Answer). a.after) (sym (answered_as_command r₀.state command text sayable outside)) in
    record {
      sayable = sayable;
      replied = done.reply ∙ ap (λ (s : LabState). (replied_to s command text).reply) stood;
      state = ap (λ (r : Recorded LabState). r.state) after ∙ left;
      kept = after ∙ (ap (λ (r : Recorded LabState). with_state r s₂) kept_line
          ∙ (ap (λ (t : List ℕ). record { state = s₂; transcript = r₀.transcript ++ t }) (sym (append-nil (ended line)))
          ∙ ap (λ (s : LabState). record { state = s; transcript = r₀.transcript ++ (ended line ++ []) }) stands));
    }

-- no source is open afterwards
pub still_outside : (r₀ r₁ : Recorded LabState) (command : Command) (text : List ℕ) (said : Reply) → r₀.state.opened ≡ None → opens_source command ≡ false
    → IsPerformed r₀ r₁ command text said → r₁.state.opened ≡ None
still_outside r₀ r₁ command text said outside closed is =
    ap (λ (s : LabState). s.opened) is.state ∙ (opened_stays r₀.state command text closed ∙ outside)

-- the reply as it is written is the script's
pub said_line : (r₀ r₁ : Recorded LabState) (s : LabState) (command : Command) (text : List ℕ) (said : Reply) (before after : List ℕ) → r₀.state.opened ≡ None
    → IsPerformed r₀ r₁ command text said → s ≡ r₁.state → after ≡ before ++ reply_text s said
    → IsAnswered before after r₁ (lines_answered script_language r₀ (command_text command text ∷ []))
unfolding replies_text
said_line r₀ r₁ s command text said before after outside is lent printed =
    let replied : Replied = replied_to r₀.state command text in
    record {
      reply = printed
          ∙ (ap (λ (s : LabState). before ++ reply_text s said) (lent ∙ is.state)
          ∙ (ap (λ (r : Reply). before ++ reply_text replied.after r) is.replied
          ∙ (ap (λ (a : Answer). before ++ a.reply) (sym (answered_as_command r₀.state command text is.sayable outside))
          ∙ ap (λ (t : List ℕ). before ++ t) (sym (append-nil (answer_to_line r₀.state (command_text command text)).reply)))));
      after = is.kept;
    }

-- the reply with the reason of a refusal
pub explained_line : (r₀ r₁ : Recorded LabState) (s : LabState) (command : Command) (text : List ℕ) (said : Reply) (before after : List ℕ)
    → IsPerformed r₀ r₁ command text said → s ≡ r₁.state → after ≡ before ++ explained_text s said
    → IsAnswered before after r₁ (explained_command r₀ command text)
explained_line r₀ r₁ s command text said before after is lent printed =
    let replied : Replied = replied_to r₀.state command text in
    record {
      reply = printed
          ∙ (ap (λ (s : LabState). before ++ explained_text s said) (lent ∙ is.state)
          ∙ ap (λ (r : Reply). before ++ explained_text replied.after r) is.replied);
      after = is.kept;
    }

-- a run that is reported
pub told_line : (r₀ r₁ : Recorded LabState) (s : LabState) (telling : Telling) (form : Report) (limit : ℕ) (said : Reply) (before middle after : List ℕ)
    → IsPerformed r₀ r₁ (commands.Run limit) [] said → s ≡ r₁.state → form ≡ form_of telling
    → middle ≡ before ++ reported_at r₀.state telling limit → after ≡ middle ++ run_end_text form s said
    → IsAnswered before after r₁ (told_run r₀ telling limit)
unfolding run_line
told_line r₀ r₁ s telling form limit said before middle after is lent form_is reported printed =
    let replied : Replied = replied_to_run r₀.state limit in
    record {
      reply = printed
          ∙ (ap (λ (t : List ℕ). t ++ run_end_text form s said) reported
          ∙ (append_assoc before (reported_at r₀.state telling limit) (run_end_text form s said)
          ∙ ap (λ (t : List ℕ). before ++ (reported_at r₀.state telling limit ++ t))
          (ap (λ (f : Report). run_end_text f s said) form_is
          ∙ (ap (λ (s : LabState). run_end_text (form_of telling) s said) (lent ∙ is.state)
          ∙ ap (λ (r : Reply). run_end_text (form_of telling) replied.after r) is.replied))));
      after = is.kept;
    }

pub told_text : (r₀ r₁ : Recorded LabState) (s₁ : LabState) (telling : Telling) (limit number : ℕ) (line before after : List ℕ)
    → r₁ ≡ with_line r₀ line → s₁ ≡ r₁.state → number ≡ limit → after ≡ before ++ reported_at s₁ telling number → after ≡ before ++ reported_at r₀.state telling limit
told_text r₀ r₁ s₁ telling limit number line before after kept lent same printed =
    printed ∙ (ap (λ (n : ℕ). before ++ reported_at s₁ telling n) same
    ∙ ap (λ (s : LabState). before ++ reported_at s telling limit) (lent ∙ ap (λ (r : Recorded LabState). r.state) kept))

-- a run by its number
pub performed_run : (r₀ r₁ r₂ : Recorded LabState) (s₁ s₂ : LabState) (limit number : ℕ) (said : Reply) → r₀.state.opened ≡ None → IsSayable (commands.Run limit)
    → r₁ ≡ with_line r₀ (command_text (commands.Run limit) []) → s₁ ≡ r₁.state → number ≡ limit → IsReplied said s₂ (replied_to_run s₁ number) → r₂ ≡ with_state r₁ s₂
    → IsPerformed r₀ r₂ (commands.Run limit) [] said
performed_run r₀ r₁ r₂ s₁ s₂ limit number said outside sayable kept lent same ran after =
    performed r₀ r₁ r₂ s₁ s₂ (commands.Run limit) [] said outside sayable kept lent (subst (λ (n : ℕ). IsReplied said s₂ (replied_to_run s₁ n)) same ran) after

-- a run that was performed before its line was kept, by as many orders as it performed
pub kept_after : (r₀ r₁ r₂ : Recorded LabState) (s₁ : LabState) (orders : ℕ) → r₀.state.opened ≡ None → IsSayable (commands.Run orders)
    → s₁ ≡ (replied_to_run r₀.state orders).after → r₁ ≡ with_state r₀ s₁ → r₂ ≡ with_line r₁ (command_text (commands.Run orders) [])
    → r₂ ≡ after_lines script_language r₀ (run_line orders ∷ [])
unfolding run_line
kept_after r₀ r₁ r₂ s₁ orders outside sayable left lent kept =
    let line : List ℕ = command_text (commands.Run orders) [] in
    let done : IsReplied (replied_to_run r₀.state orders).reply s₁ (replied_to_run r₀.state orders) = record { reply = refl; after = left } in
    (performed r₀ (with_line r₀ line) r₂ r₀.state s₁ (commands.Run orders) [] (replied_to_run r₀.state orders).reply outside sayable refl refl done
    (kept ∙ ap (λ (r : Recorded LabState). with_line r line) lent)).kept

-- a run that ends with the order that meets a condition
pub until_line : (r₀ r₁ r₂ : Recorded LabState) (s s₁ : LabState) (until : Until) (limit number orders : ℕ) (done : UntilReply) (before middle after : List ℕ)
    → r₀.state.opened ≡ None → IsSayable (commands.Run orders) → number ≡ limit → IsRepliedUntil until number r₀.state s₁ done → orders ≡ done.orders
    → r₁ ≡ with_state r₀ s₁ → r₂ ≡ with_line r₁ (command_text (commands.Run orders) []) → s ≡ r₂.state
    → middle ≡ before ++ explained_text s done.reply → after ≡ middle ++ met_text done.is_met
    → IsAnswered before after r₂ (answer_to_until r₀ until limit)
until_line r₀ r₁ r₂ s s₁ until limit number orders done before middle after outside sayable same is counted lent kept seen printed met =
    let so : IsRepliedUntil until limit r₀.state s₁ done = subst (λ (n : ℕ). IsRepliedUntil until n r₀.state s₁ done) same is in
    let replied : Replied = replied_until until limit r₀.state in
    let count : orders ≡ orders_done until limit r₀.state = counted ∙ so.orders in
    let state : s ≡ replied.after = seen ∙ ap (λ (r : Recorded LabState). r.state) (kept ∙ ap (λ (r : Recorded LabState). with_line r (command_text (commands.Run orders) [])) lent) ∙ so.replied.after in
    let word : met_text done.is_met ≡ met_text (is_met until limit r₀.state) = ap met_text (so.met ∙ ap (λ (n : ℕ). is_done until r₀.state.debugger.state n) so.orders) in
    record {
      reply = met ∙ (ap (λ (t : List ℕ). t ++ met_text done.is_met) printed
          ∙ (append_assoc before (explained_text s done.reply) (met_text done.is_met)
          ∙ (ap (λ (t : List ℕ). before ++ (explained_text s done.reply ++ t)) word
          ∙ (ap (λ (t : LabState). before ++ (explained_text t done.reply ++ met_text (is_met until limit r₀.state))) state
          ∙ ap (λ (r : Reply). before ++ (explained_text replied.after r ++ met_text (is_met until limit r₀.state))) so.replied.reply))));
      after = kept_after r₀ r₁ r₂ s₁ orders outside sayable (so.again ∙ ap (λ (n : ℕ). (replied_to_run r₀.state n).after) (sym counted)) lent kept
          ∙ ap (λ (n : ℕ). after_lines script_language r₀ (run_line n ∷ [])) count;
    }
