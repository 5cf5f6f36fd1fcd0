-- The text of the flag is the one that the matches hold.
use Rattle.std.proofs.Common.{◌∙◌, [], ap, codes, unwrap_or}
use Rattle.std.specs.Prelude.{Option}
use Rattle.std.specs.Borrow.{Bor}
use Rattle.std.specs.Str.{bytes_eq}
use Rattle.clap.specs.Words.{Text, found_of}
use Rattle.clap.proofs.WalkLemmas.{first_value-rows}
use Rattle.lgp_task.proofs.MatchLemmas.{unwrap_or-now}
use Rattle.lgp_task.proofs.session.has_flag.Goals as goal

pub returns : goal.returns
returns c =
    let text = ap (λ (s : Bor Text). s.now) c.unwrap_or.ensures ∙ unwrap_or-now _ _ _ c.get_str.ensures
    ∙ ap (λ (o : Option Text). unwrap_or o []) (first_value-rows (found_of c.args.matches.now) c.args.name.now) in
    c.eq.ensures ∙ ap (λ (t : Text). bytes_eq t (codes "true")) text
