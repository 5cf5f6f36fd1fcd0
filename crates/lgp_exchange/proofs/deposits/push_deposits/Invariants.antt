use Rattle.std.proofs.Common.{◌≡◌, ◌++◌, ◌<◌, length, take, drop, All}
use Rattle.lgp_word.specs.Word.{IsWord}
use Rattle.lgp_exchange.specs.Deposits.{deposits_of, lines_from, used_deposit}
use Rattle.lgp_exchange.proofs.deposits.push_deposits.Given as goal

abbrev pub invariant-loop-number : goal.invariant-loop-number
invariant-loop-number g l =
    let words = g.W.DrumWords.words l.fn.words in
    record {
      size : 0 < l.number → length words ≡ 4096;
      text : l.text.items ++ lines_from used_deposit l.number (drop l.number words) ≡ l.fn.text.items ++ deposits_of words;
      words : All IsWord (take l.number words);
    }
