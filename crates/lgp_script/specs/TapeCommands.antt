-- Part of the public promise: the script language, what is answered to the commands of the tape and
-- the paper.
use Rattle.std.specs.Prelude.{ℕ, ◌++◌, nat_lt, if◌then◌else◌, Result, Ok, Err, List}
use Rattle.std.specs.Prelude.{[], ◌∷◌, length, codes, decimal}
use Rattle.std.specs.Result.{result_unwrap_or}
use Rattle.lgp_flexo.specs.TapeText.{codes_of_text, tape_limit, written_tape}
use Rattle.lgp_history.specs.Step.{Mount}
use Rattle.lgp_script.specs.LabState.{LabState}
use Rattle.lgp_script.specs.Reply.{Replied, refusing, replied_to_step}
use Rattle.lgp_script.specs.declared.refusal.Refusal.TheVariants as refusals
use Rattle.lgp_script.specs.declared.reply.Reply.TheVariants as replies

-- ---- mount

abbrev pub replied_to_tape : LabState → Result (List ℕ) ℕ → Replied
replied_to_tape lab (Err place) = refusing (refusals.BadSign place) lab
replied_to_tape lab (Ok tape) = replied_to_step (replies.Mounted (length tape)) lab (Mount tape)

-- the same with a text of any length, which may have more codes than a tape can have
abbrev pub replied_to_tape_text : LabState → List ℕ → Replied
replied_to_tape_text lab text =
    if nat_lt tape_limit (length (result_unwrap_or (codes_of_text text) []))
    then refusing refusals.TooLong lab else replied_to_tape lab (codes_of_text text)

-- ---- printed

unfoldable pub printed_text : List ℕ → List ℕ
printed_text [] = codes "printed 0\n"
printed_text (code ∷ more) =
    codes "printed "
    ++ (decimal (length (code ∷ more)) ++ (codes " " ++ (written_tape (code ∷ more) ++ codes "\n")))
