-- Part of the public promise. The lines of what words have to gain: the words of a run with most,
-- and the 64 numbers of one word, drawn along its track.
use Rattle.std.specs.Prelude.{ℕ, zero, suc, ◌+◌, ◌-◌, ◌*◌, ◌/◌, ◌%◌, ◌++◌, ◌==◌, if◌then◌else◌}
use Rattle.std.specs.Prelude.{List, [], codes, decimal, flat_map, length, map, max, min, replicate}
use Rattle.std.specs.Prelude.{slice_index, sum}
use Rattle.std.specs.List.{concat, range_with_len}
use Rattle.std.specs.Str.{byte}
use Rattle.lgp_word.specs.Address.{sector_of}
use Rattle.lgp_trace.specs.AccountLines.{place_text}
use Rattle.lgp_trace.specs.Columns.{left_aligned, spaced_number}
use Rattle.lgp_optimum.specs.Gains.{Moves, best_of, gains_of, ranking, times_of}
use Rattle.lgp_trace.specs.ProfileLines.{share_text, totals_line}
use Rattle.lgp_optimum.specs.declared.optimum.Best.{Best}
use Rattle.lgp_optimum.specs.declared.lines.Track.{Track}
use Rattle.lgp_optimum.specs.declared.ranking.Gain.{Gain}
use Rattle.lgp_optimum.specs.declared.uses.Freedom.{Freedom}
use Rattle.lgp_optimum.specs.declared.uses.Freedom.TheVariants as freedoms

-- ---- the words with most to gain

unfoldable pub sectors_text : ℕ → ℕ → List ℕ
sectors_text own best =
    codes "sector" ++ (spaced_number 2 own ++ (codes ", best" ++ spaced_number 2 best))

-- a word, its sector, its best one, and what it saves of all word times
unfoldable pub gain_line : (ℕ → List ℕ) → ℕ → Gain → List ℕ
gain_line label whole gain =
    codes "  " ++ (left_aligned 18 (place_text label gain.word)
    ++ (sectors_text (sector_of gain.word) gain.best.sector
    ++ share_text gain.best.saved whole))

unfoldable pub section_heading : Freedom → List ℕ
section_heading freedoms.Free = codes "the ten words with most to gain\n"
section_heading freedoms.Unnamed = codes "named by no order\n"
section_heading freedoms.Performed =
    codes "should not be moved, because they were performed as orders\n"
section_heading freedoms.NamedByChanged =
    codes "should not be moved, because a changed order or one only in the register named them\n"

-- the ten words of a freedom with most to gain; nothing where none has anything to gain
unfoldable pub section_text : (ℕ → List ℕ) → Moves → Freedom → List ℕ
section_text label moves wanted =
    let words = ranking moves wanted 10 in
    if length words == 0 then []
    else section_heading wanted ++ flat_map (gain_line label moves.took) words

-- what all words that may be moved save together
unfoldable pub together_line : Moves → List ℕ
together_line moves =
    codes "  all words that may be moved together"
    ++ share_text (sum (gains_of moves freedoms.Free)) moves.took

abbrev pub no_order_text : List ℕ
no_order_text = codes "no order was performed, so no word was named\n"

-- of a given number of orders: the words that may be moved, and those that may not
unfoldable pub optimum_text : (ℕ → List ℕ) → ℕ → Moves → List ℕ
optimum_text label orders moves =
    if orders == 0 then no_order_text
    else totals_line orders moves.took ++ (section_text label moves freedoms.Free
    ++ (together_line moves ++ (section_text label moves freedoms.Performed
    ++ section_text label moves freedoms.NamedByChanged)))

-- ---- the 64 numbers of one word

-- the sector that the head reads at a position of its track: the one after it, 9 positions on, has
-- the next number, and 57 times 9 is one more than eight times 64
abbrev pub sector_at : ℕ → ℕ
sector_at position = 57 * position % 64

-- the greatest of the first n numbers
unfoldable pub greatest : List ℕ → ℕ → ℕ
greatest times zero = 0
greatest times (suc more) = max (greatest times more) (slice_index times more)

abbrev pub track_of : List ℕ → ℕ → ℕ → Track
track_of times own best =
    record { own = own; best = best; least = slice_index times best; most = greatest times 64 }

-- one sign for the least number, and forty at most
abbrev pub bar_length : Track → ℕ → ℕ
bar_length track times = 1 + min 39 ((times - track.least) / ((track.most - track.least) / 40 + 1))

unfoldable pub mark_text : Track → ℕ → List ℕ
mark_text track sector =
    (if sector == track.own then codes " own" else [])
    ++ ((if sector == track.best then codes " best" else []) ++ codes "\n")

unfoldable pub sector_line : Track → ℕ → ℕ → List ℕ
sector_line track sector times =
    codes "  sector" ++ (spaced_number 2 sector ++ (spaced_number 12 times
    ++ (codes "  " ++ (replicate (bar_length track times) (byte "#")
    ++ mark_text track sector))))

-- a line for each sector, in the order in which they pass the head
unfoldable pub track_text : Track → List ℕ → List ℕ
track_text track times =
    concat (map (λ position. sector_line track (sector_at position)
    (slice_index times (sector_at position))) (range_with_len 0 64))

-- whether a word may be moved, and what it saves at its best sector
unfoldable pub saved_text : ℕ → ℕ → List ℕ
saved_text saved sector =
    codes "  it may be moved, and saves " ++ (decimal saved ++ (codes " word times at sector "
    ++ (decimal sector ++ codes "\n")))

unfoldable pub freedom_text : Freedom → Best → List ℕ
freedom_text freedoms.Free best = saved_text best.saved best.sector
freedom_text freedoms.Unnamed best =
    codes "  no order waited for it or stood there, so its sector makes no difference\n"
freedom_text freedoms.Performed best =
    codes "  it should not be moved, because it was performed as an order\n"
freedom_text freedoms.NamedByChanged best =
    codes "  it should not be moved, because a changed order or one only in the register named it\n"

-- the numbers of a word along its track; nothing where they are all the same
abbrev pub drawing_of : Moves → ℕ → List ℕ
drawing_of moves word =
    let times = times_of moves word in
    let track = track_of times (sector_of word) (best_of moves word).sector in
    if track.most == track.least then [] else track_text track times

-- of a given number of orders, and of one word
unfoldable pub word_text : (ℕ → List ℕ) → ℕ → Moves → ℕ → List ℕ
word_text label orders moves word =
    if orders == 0 then no_order_text
    else totals_line orders moves.took ++ (place_text label word ++ (codes "\n"
    ++ (drawing_of moves word
    ++ freedom_text (moves.free word) (best_of moves word))))
