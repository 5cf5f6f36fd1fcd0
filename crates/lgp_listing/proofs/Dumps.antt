-- The dump of some words, a word more.
use Rattle.std.proofs.Common.{◌≡◌, ◌<◌, ◌+◌, ◌++◌, ℕ, List, drop, length, get_or, sym, ap, ◌∙◌}
use Rattle.std.proofs.lemmas.List.{append_assoc, drop_more}
use Rattle.lgp_listing.specs.Dump.{word_line, dump_from}

-- the lines of the words before a place, and of those from it on
pub dump_more : (text words whole : List ℕ) (i : ℕ) → i < length words → text ++ dump_from i (drop i words) ≡ whole
    → (text ++ word_line i (get_or words i 0)) ++ dump_from (i + 1) (drop (i + 1) words) ≡ whole
dump_more text words whole i within e =
    let word = get_or words i 0 in
    append_assoc text (word_line i word) (dump_from (i + 1) (drop (i + 1) words))
    ∙ ap (λ t. text ++ t) (sym (ap (dump_from i) (drop_more words i 0 within))) ∙ e
