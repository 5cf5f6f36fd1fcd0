-- The number is the one that the matches' text stands for.
use Rattle.std.proofs.Common.{◌∙◌, ap, codes}
use Rattle.std.specs.Prelude.{Option}
use Rattle.std.specs.Option.{option_map_or}
use Rattle.std.specs.Str.Parse.{ParsesUnsigned, ExplainsUnsignedError, HasUnsignedDigitsIfOk}
use Rattle.clap.specs.Words.{Text, found_of, one_text}
use Rattle.clap.proofs.WalkLemmas.{one_text-rows}
use Rattle.lgp_task.specs.Task.{number_of}
use Rattle.lgp_task.proofs.MatchLemmas.{limit-read}
use Rattle.lgp_task.proofs.task.limit_of.Goals as goal

pub returns : goal.returns
returns c = c.unwrap_or.ensures ∙ limit-read (λ text r. ParsesUnsigned 64 10 text r × ExplainsUnsignedError 10 text r × HasUnsignedDigitsIfOk text r)
    (λ text r given. given.0) (one_text (found_of c.args.matches.now) (codes "LIMIT")) c.get_one.result c.get_one.ensures.none c.get_one.ensures.value
    ∙ ap (λ (o : Option Text). option_map_or number_of o 0) (one_text-rows (found_of c.args.matches.now) (codes "LIMIT"))
