use Rattle.std.proofs.Common.{◌≡◌, ◌<◌, ◌++◌, ◌∙◌, rules, ap, sym, subst, arith, drop, length, get_or, ◌+◌, refl}
use Rattle.std.proofs.lemmas.Grind.{common_steps}
use Rattle.std.proofs.lemmas.List.{append_assoc, drop_more, take_all}
use Rattle.std.proofs.lemmas.List.Elements.{All-more}
use Rattle.std.specs.List.{All}
use Rattle.lgp_word.specs.Word.{IsWord}
use Rattle.lgp_exchange.specs.Deposits.{deposits_of, lines_from, used_deposit}
use Rattle.lgp_exchange.proofs.deposits.push_deposits.Goals as goal

pub loop-number-init : goal.loop-number-init
unfolding deposits_of
loop-number-init g c = record {
  size = λ some. absurd (omega arith);
  text = refl;
  words = λ k d small. absurd (omega arith);
}

pub loop-number-preserved : goal.loop-number-preserved
loop-number-preserved g c =
    let words = g.W.DrumWords.words c.args.words.now in
    let number = c.loop-number.number in
    let here : c.unwrap-address.result ≡ number = search rules in
    let within : number < length words = omega (arith, c.word_at.ensures.drum) in
    let read : c.word_at.result ≡ get_or words number 0 = c.word_at.ensures.word ∙ ap (λ a. get_or words a 0) here in
    let rest = lines_from used_deposit (number + 1) (drop (number + 1) words) in
    record {
      size = λ _. c.word_at.ensures.drum;
      text = ap (λ t. t ++ rest) (c.in_ok-push_word.ensures.text
          ∙ ap (λ a. c.loop-number.text.items ++ used_deposit a c.word_at.result) here ∙ ap (λ w. c.loop-number.text.items ++ used_deposit number w) read)
          ∙ append_assoc c.loop-number.text.items (used_deposit number (get_or words number 0)) rest
          ∙ ap (λ t. c.loop-number.text.items ++ t) (sym (ap (lines_from used_deposit number) (drop_more words number 0 within)))
          ∙ c.loop-number.invariant.text;
      words = All-more IsWord words number 0 within c.loop-number.invariant.words (subst IsWord read c.in_ok-push_word.ensures.word);
    }

pub returns-clause-drum : goal.returns-clause-drum
returns-clause-drum g c =
    let size : length (g.W.DrumWords.words c.args.words.now) ≡ 4096 = c.loop-number.invariant.size (omega arith) in
    record {
      size = size;
      words_are = subst (All IsWord) (take_all c.loop-number.number (g.W.DrumWords.words c.args.words.now) (omega arith)) c.loop-number.invariant.words;
    }

pub returns-clause-text : goal.returns-clause-text
returns-clause-text g c = grind (arith, common_steps)
