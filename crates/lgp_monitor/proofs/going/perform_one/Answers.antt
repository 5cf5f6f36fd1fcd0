use Rattle.std.proofs.Common.{ℕ, [], ◌∷◌, subst}
use Rattle.std.specs.Fmt.{digits}
use Rattle.std.proofs.lemmas.Result.{on_ok_weaker}
use Rattle.lgp_command.specs.CommandText.{command_text}
use Rattle.lgp_command.specs.declared.command.Command.TheVariants as commands
use Rattle.lgp_stream.specs.Language.{IsAnswered}
use Rattle.lgp_stream.specs.Transcript.{lines_answered}
use Rattle.lgp_script.specs.Script.{script_language}
use Rattle.lgp_monitor.proofs.going.perform_one.Goals as goal

pub returns-clause-answered : goal.returns-clause-answered
unfolding command_text digits
returns-clause-answered g c =
    on_ok_weaker c.say.result
    (λ is. subst (λ (limit : ℕ). IsAnswered c.args.reply.now.items c.say.new.reply.items c.say.new.recorder
    (lines_answered script_language c.args.recorder.now (command_text (commands.Orders limit) [] ∷ []))) c.one.ensures is)
    c.say.ensures.answered
