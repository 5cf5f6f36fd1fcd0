use Rattle.std.proofs.Common.{◌≡◌, ◌∙◌, codes, sym, true}
use Rattle.std.specs.Str.{bytes_eq}
use Rattle.lgp_stream.proofs.AnswerLemmas.{answered_as}
use Rattle.lgp_script.proofs.KeptLemmas.{point_ends}
use Rattle.lgp_script.proofs.laboratory.Laboratory.take_line.Goals as goal

pub returns-then-is_word : goal.returns-then-is_word
returns-then-is_word g c = λ text kept.
    let point : bytes_eq text (codes ".") ≡ true = sym (c.is_word.ensures text kept) ∙ c.if-is_word.true in
    answered_as c.close_source.result _ _ _ _ _ (point_ends c.args.self.now c.args.source text point) c.close_source.ensures
