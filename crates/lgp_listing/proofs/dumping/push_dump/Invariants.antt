use Rattle.std.proofs.Common.{◌≡◌, ◌+◌, ◌++◌, ◌<◌, ◌≤◌, length, take, drop, count_by, All}
use Rattle.lgp_word.specs.Word.{IsWord}
use Rattle.lgp_listing.specs.Dump.{is_used, dump_from, dump_of}
use Rattle.lgp_listing.proofs.dumping.push_dump.Given as goal

abbrev pub invariant-loop-number : goal.invariant-loop-number
invariant-loop-number g l =
    let words = g.W.DrumWords.words l.fn.words in
    record {
      size : 0 < l.number → length words ≡ 4096;
      text : l.text.items ++ dump_from l.number (drop l.number words) ≡ l.fn.text.items ++ dump_of words;
      count : l.count + count_by is_used (drop l.number words) ≡ count_by is_used words;
      small : l.count ≤ l.number;
      words : All IsWord (take l.number words);
    }
