-- Serves proofs only: a run that was performed, and one before which Start was pressed.
use Rattle.std.specs.Prelude.{◌≡◌, ℕ, [], ◌∷◌, None}
use Rattle.lgp_stream.specs.Transcript.{Recorded, after_lines}
use Rattle.lgp_script.specs.HistoryCommands.{replied_to_run}
use Rattle.lgp_script.specs.LabState.{LabState}
use Rattle.lgp_script.specs.Reply.{IsReplied}
use Rattle.lgp_script.specs.Script.{script_language}
use Rattle.lgp_script.specs.declared.reply.Reply.{Reply}
use Rattle.lgp_monitor.specs.Operating.{run_again, run_line, start_line}

pub record HasRun (limit : ℕ) (before now : Recorded LabState) (said : Reply) : Type 0 where
  pub replied : IsReplied said now.state (replied_to_run before.state limit)
  pub kept : now ≡ after_lines script_language before (run_line limit ∷ [])
  pub outside : now.state.opened ≡ None

pub record HasRunAgain (limit : ℕ) (before now : Recorded LabState) (said : Reply) : Type 0 where
  pub replied : IsReplied said now.state (run_again limit before.state)
  pub kept : now ≡ after_lines script_language before (start_line ∷ run_line limit ∷ [])
  pub outside : now.state.opened ≡ None
