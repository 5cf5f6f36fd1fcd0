use Rattle.std.proofs.Common.{◌≡◌, ◌<◌, ◌++◌, ◌∙◌, rules, ap, subst, arith, drop, length, get_or, ◌+◌, refl, cond}
use Rattle.std.proofs.lemmas.List.{take_all}
use Rattle.std.proofs.lemmas.List.Elements.{All-more}
use Rattle.std.specs.List.{All}
use Rattle.lgp_word.specs.Word.{IsWord}
use Rattle.lgp_listing.specs.Dump.{is_used, word_line, dump_from, dump_of}
use Rattle.lgp_listing.proofs.Dumps.{dump_more}
use Rattle.lgp_listing.proofs.UsedWords.{bool_byte-count, count_more, count_within}
use Rattle.lgp_listing.proofs.dumping.push_dump.Goals as goal

pub loop-number-init : goal.loop-number-init
unfolding dump_of
loop-number-init g c = record {
  size = λ some. absurd (omega arith);
  text = refl;
  count = omega arith;
  small = omega arith;
  words = λ k d small. absurd (omega arith);
}

pub loop-number-preserved : goal.loop-number-preserved
loop-number-preserved g c =
    let words = g.W.DrumWords.words c.args.words.now in
    let number = c.loop-number.number in
    let here : c.unwrap-address.result ≡ number = search rules in
    let within : number < length words = omega (arith, c.word_at.ensures.drum) in
    let read : c.word_at.result ≡ get_or words number 0 = c.word_at.ensures.word ∙ ap (λ a. get_or words a 0) here in
    let line : word_line c.unwrap-address.result c.word_at.result ≡ word_line number (get_or words number 0) =
    ap (λ a. word_line a c.word_at.result) here ∙ ap (word_line number) read in
    let one : c.from.result ≡ cond (is_used c.word_at.result) 1 0 = c.from.ensures ∙ bool_byte-count _ ∙ ap (λ b. cond b 1 0) c.in_ok-push_word.ensures.used in
    let added : c.loop-number.count + c.from.result ≡ c.loop-number.count + cond (is_used c.word_at.result) 1 0 = ap (λ n. c.loop-number.count + n) one in
    record {
      size = λ _. c.word_at.ensures.drum;
      text = ap (λ t. t ++ dump_from (number + 1) (drop (number + 1) words)) (c.in_ok-push_word.ensures.text ∙ ap (λ l. c.loop-number.text.items ++ l) line)
          ∙ dump_more _ _ _ _ within c.loop-number.invariant.text;
      count = count_more _ _ _ _ _ _ within read added c.loop-number.invariant.count;
      small = count_within _ _ _ _ added c.loop-number.invariant.small;
      words = All-more IsWord words number 0 within c.loop-number.invariant.words (subst IsWord read c.in_ok-push_word.ensures.word);
    }

pub returns-clause-drum : goal.returns-clause-drum
returns-clause-drum g c =
    let size : length (g.W.DrumWords.words c.args.words.now) ≡ 4096 = c.loop-number.invariant.size (omega arith) in
    record {
      size = size;
      words_are = subst (All IsWord) (take_all c.loop-number.number (g.W.DrumWords.words c.args.words.now) (omega arith)) c.loop-number.invariant.words;
    }
