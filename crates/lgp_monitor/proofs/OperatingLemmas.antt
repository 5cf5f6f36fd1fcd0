-- Runs that are asked for again where the machine waits for a typewriter.
use Rattle.std.proofs.Common.{◌≡◌, ◌∙◌, ◌+◌, ℕ, zero, suc, Bool, true, false, cond, None, [], ◌∷◌, refl, sym, ap, subst, arith}
use Rattle.lgp_stream.specs.Transcript.{Recorded, after_lines}
use Rattle.lgp_stream.proofs.AfterLemmas.{after-append, after-none}
use Rattle.lgp_script.specs.HistoryCommands.{replied_to_run}
use Rattle.lgp_script.specs.LabState.{LabState}
use Rattle.lgp_script.specs.Reply.{IsReplied, Replied}
use Rattle.lgp_script.specs.Script.{script_language}
use Rattle.lgp_script.specs.declared.reply.Reply.{Reply}
use Rattle.lgp_monitor.specs.Operating.{Operated, ended_with, once_more, operated, operated_on, run_again, run_line, start_line, waits_for_typewriter}
use Rattle.lgp_command.specs.declared.command.Command.TheVariants as commands
use Rattle.lgp_table.specs.declared.action.Action.TheVariants as actions
use Rattle.lgp_monitor.specs.OperatingInside.{HasRun, HasRunAgain}
use Rattle.lgp_monitor.specs.PerformingInside.{IsPerformed}
use Rattle.lgp_monitor.proofs.PerformingLemmas.{still_outside}

-- a reply and where the laboratory is
abbrev pub left_so : Recorded LabState → Reply → Replied
left_so now said = record { reply = said; after = now.state }

same_replied : (said : Reply) (s : LabState) (replied : Replied) → IsReplied said s replied → record { reply = said; after = s } ≡ replied
same_replied said s replied is =
    ap (λ (r : Reply). record { reply = r; after = s }) is.reply ∙ ap (λ (a : LabState). record { reply = replied.reply; after = a }) is.after

-- a run that is performed
pub ran : (limit : ℕ) (old now : Recorded LabState) (said : Reply) → old.state.opened ≡ None → IsPerformed old now (commands.Run limit) [] said → HasRun limit old now said
unfolding run_line
ran limit old now said outside is = record {
  replied = record { reply = is.replied; after = is.state };
  kept = is.kept;
  outside = still_outside old now (commands.Run limit) [] said outside refl is;
}

-- a run that is performed after Start was pressed
pub ran_again : (limit : ℕ) (old mid now : Recorded LabState) (started said : Reply) → IsPerformed old mid (commands.Press actions.Start) [] started → HasRun limit mid now said → HasRunAgain limit old now said
ran_again limit old mid now started said first run = record {
  replied = subst (λ (s : LabState). IsReplied said now.state (replied_to_run s limit)) first.state run.replied;
  kept = run.kept ∙ (ap (λ (r : Recorded LabState). after_lines script_language r (run_line limit ∷ [])) first.kept
      ∙ after-append script_language old (start_line ∷ []) (run_line limit ∷ []));
  outside = run.outside;
}

-- where a run has this reply and Start may be pressed a number of times more, what follows leads to the end
pub record IsOperated (limit : ℕ) (now : Recorded LabState) (said : Reply) (left done : ℕ) (last : Recorded LabState) (whole : Operated) : Type 0 where
  pub lines : after_lines script_language now (operated_on limit left (left_so now said)).lines ≡ last
  pub reply : (operated_on limit left (left_so now said)).last ≡ whole.last
  pub starts : done + (operated_on limit left (left_so now said)).starts ≡ whole.starts

-- after the first run
pub operated_begun : (limit : ℕ) (old now : Recorded LabState) (said : Reply) (left : ℕ)
    → left ≡ limit → HasRun limit old now said
    → IsOperated limit now said left 0 (after_lines script_language old (operated limit old.state).lines) (operated limit old.state)
unfolding operated
operated_begun limit old now said left left_is ran =
    let more : Operated = operated_on limit limit (replied_to_run old.state limit) in
    let same : operated_on limit left (left_so now said) ≡ more =
    ap (λ (n : ℕ). operated_on limit n (left_so now said)) left_is
    ∙ ap (λ (r : Replied). operated_on limit limit r) (same_replied said now.state (replied_to_run old.state limit) ran.replied) in
    record {
      lines = ap (λ (o : Operated). after_lines script_language now o.lines) same
          ∙ (ap (λ (r : Recorded LabState). after_lines script_language r more.lines) ran.kept
          ∙ after-append script_language old (run_line limit ∷ []) more.lines);
      reply = ap (λ (o : Operated). o.last) same;
      starts = let is : (operated_on limit left (left_so now said)).starts ≡ more.starts = ap (λ (o : Operated). o.starts) same in omega (arith, is);
    }

-- Start is pressed once more
pub operated_more : (limit : ℕ) (now next : Recorded LabState) (said replied : Reply) (left rest done : ℕ) (last : Recorded LabState) (whole : Operated)
    → left ≡ suc rest → waits_for_typewriter now.state ≡ true → HasRunAgain limit now next replied
    → IsOperated limit now said left done last whole → IsOperated limit next replied rest (done + 1) last whole
operated_more limit now next said replied left rest done last whole left_is waits ran so =
    let more : Operated = operated_on limit rest (run_again limit now.state) in
    let same : operated_on limit rest (left_so next replied) ≡ more =
    ap (λ (r : Replied). operated_on limit rest r) (same_replied replied next.state (run_again limit now.state) ran.replied) in
    let step : operated_on limit left (left_so now said) ≡ once_more limit more =
    ap (λ (n : ℕ). operated_on limit n (left_so now said)) left_is
    ∙ ap (λ (w : Bool). cond w (once_more limit more) (ended_with (left_so now said))) waits in
    let same_starts : (operated_on limit rest (left_so next replied)).starts ≡ more.starts = ap (λ (o : Operated). o.starts) same in
    let step_starts : (operated_on limit left (left_so now said)).starts ≡ more.starts + 1 = ap (λ (o : Operated). o.starts) step in
    record {
      lines = ap (λ (o : Operated). after_lines script_language next o.lines) same
          ∙ (ap (λ (r : Recorded LabState). after_lines script_language r more.lines) ran.kept
          ∙ (after-append script_language now (start_line ∷ run_line limit ∷ []) more.lines
          ∙ (sym (ap (λ (o : Operated). after_lines script_language now o.lines) step)
          ∙ so.lines)));
      reply = ap (λ (o : Operated). o.last) same ∙ (sym (ap (λ (o : Operated). o.last) step) ∙ so.reply);
      starts = omega (arith, same_starts, step_starts, so.starts);
    }

-- nothing more is done
pub record IsDone (now : Recorded LabState) (said : Reply) (done : ℕ) (last : Recorded LabState) (whole : Operated) : Type 0 where
  pub lines : now ≡ last
  pub reply : left_so now said ≡ whole.last
  pub starts : done ≡ whole.starts

operated_last : (limit : ℕ) (now : Recorded LabState) (said : Reply) (left done : ℕ) (last : Recorded LabState) (whole : Operated)
    → operated_on limit left (left_so now said) ≡ ended_with (left_so now said)
    → IsOperated limit now said left done last whole → IsDone now said done last whole
operated_last limit now said left done last whole none so =
    let starts : (operated_on limit left (left_so now said)).starts ≡ 0 = ap (λ (o : Operated). o.starts) none in
    record {
      lines = sym (after-none script_language now)
          ∙ (sym (ap (λ (o : Operated). after_lines script_language now o.lines) none) ∙ so.lines);
      reply = sym (ap (λ (o : Operated). o.last) none) ∙ so.reply;
      starts = omega (arith, starts, so.starts);
    }

-- the machine does not wait for a typewriter, or Start was pressed often enough
not_waiting : (limit left : ℕ) (ran : Replied) → waits_for_typewriter ran.after ≡ false → operated_on limit left ran ≡ ended_with ran
not_waiting limit zero ran waits = refl
not_waiting limit (suc left) ran waits = rw waits refl

pub operated_rest : (limit : ℕ) (now : Recorded LabState) (said : Reply) (left done : ℕ) (last : Recorded LabState) (whole : Operated)
    → waits_for_typewriter now.state ≡ false
    → IsOperated limit now said left done last whole → IsDone now said done last whole
operated_rest limit now said left done last whole waits so =
    operated_last limit now said left done last whole (not_waiting limit left (left_so now said) waits) so

pub operated_limit : (limit : ℕ) (now : Recorded LabState) (said : Reply) (left done : ℕ) (last : Recorded LabState) (whole : Operated)
    → left ≡ 0
    → IsOperated limit now said left done last whole → IsDone now said done last whole
operated_limit limit now said left done last whole none so =
    operated_last limit now said left done last whole (ap (λ (n : ℕ). operated_on limit n (left_so now said)) none) so
