-- Part of the public promise: where words would have cost less, as records: those of a run with most
-- to gain, and what its orders would have taken with one word at each sector.
use Rattle.std.specs.Prelude.{ℕ, ◌++◌, List, [], ◌∷◌, codes, sum}
use Rattle.lgp_word.specs.Address.{sector_of}
use Rattle.lgp_word.specs.Digits.{address_digits}
use Rattle.lgp_optimum.specs.Gains.{Moves, best_of, gains_of, ranking, times_of}
use Rattle.lgp_optimum.specs.declared.optimum.Best.{Best}
use Rattle.lgp_optimum.specs.declared.ranking.Gain.{Gain}
use Rattle.lgp_optimum.specs.declared.uses.Freedom.{Freedom}
use Rattle.lgp_optimum.specs.declared.uses.Freedom.TheVariants as freedoms
use Rattle.lgp_fields.specs.Plain.{PlainField, field, Number, Numbers, Text}
use Rattle.lgp_fields.specs.Printed.{record_in}
use Rattle.lgp_fields.specs.declared.records.RecordForm.{RecordForm}
use Rattle.lgp_data.specs.Words.{name_of}

-- whether a word may be moved, in a word and in a sentence
abbrev pub freedom_word : Freedom → List ℕ
freedom_word freedoms.Free = codes "free"
freedom_word freedoms.Unnamed = codes "unnamed"
freedom_word freedoms.Performed = codes "performed"
freedom_word freedoms.NamedByChanged = codes "changed"

abbrev pub freedom_sentence : Freedom → List ℕ
freedom_sentence freedoms.Free = codes "it may be moved"
freedom_sentence freedoms.Unnamed = codes "no order waited for it or stood there, so its sector makes no difference"
freedom_sentence freedoms.Performed =
    codes "it should not be moved, because it was performed as an order"
freedom_sentence freedoms.NamedByChanged =
    codes "it should not be moved, because a changed order or one only in the register named it"

-- ---- the words with most to gain

-- the orders, their word times, and what all words that may be moved save together
abbrev pub totals_record : ℕ → ℕ → ℕ → List PlainField
totals_record orders took together =
    field (codes "orders") (Number orders)
    ∷ field (codes "times") (Number took)
    ∷ field (codes "together") (Number together)
    ∷ []

-- a word with its sector, its best one, and what it saves there
abbrev pub gain_record : List (List ℕ × ℕ) → Freedom → Gain → List PlainField
gain_record names freedom gain =
    field (codes "word") (Text (address_digits gain.word))
    ∷ field (codes "label") (name_of names gain.word)
    ∷ field (codes "sector") (Number (sector_of gain.word))
    ∷ field (codes "best") (Number gain.best.sector)
    ∷ field (codes "saved") (Number gain.best.saved)
    ∷ field (codes "freedom") (Text (freedom_word freedom))
    ∷ []

unfoldable pub gains_in : RecordForm → List (List ℕ × ℕ) → Freedom → List Gain → List ℕ
gains_in form names freedom [] = []
gains_in form names freedom (gain ∷ more) =
    record_in form (gain_record names freedom gain) ++ gains_in form names freedom more

-- the ten words of a freedom with most to gain
unfoldable pub section_in : RecordForm → List (List ℕ × ℕ) → Moves → Freedom → List ℕ
section_in form names moves freedom = gains_in form names freedom (ranking moves freedom 10)

-- of a given number of orders: the words that may be moved, and then those that may not
unfoldable pub optimum_in : RecordForm → List (List ℕ × ℕ) → ℕ → Moves → List ℕ
optimum_in form names orders moves =
    record_in form (totals_record orders moves.took (sum (gains_of moves freedoms.Free)))
    ++ (section_in form names moves freedoms.Free
    ++ (section_in form names moves freedoms.Performed
    ++ section_in form names moves freedoms.NamedByChanged))

-- ---- one word

-- the orders with their word times; a word with its sector, its best one, what it saves there, and
-- whether it may be moved; and by sector what the orders would have taken with it there
abbrev pub numbers_record : List (List ℕ × ℕ) → ℕ → ℕ → ℕ → Freedom → Best → List ℕ
    → List PlainField
numbers_record names orders took word freedom best times =
    field (codes "orders") (Number orders)
    ∷ field (codes "times") (Number took)
    ∷ field (codes "word") (Text (address_digits word))
    ∷ field (codes "label") (name_of names word)
    ∷ field (codes "sector") (Number (sector_of word))
    ∷ field (codes "best") (Number best.sector)
    ∷ field (codes "saved") (Number best.saved)
    ∷ field (codes "freedom") (Text (freedom_word freedom))
    ∷ field (codes "freedom-sentence") (Text (freedom_sentence freedom))
    ∷ field (codes "numbers") (Numbers times)
    ∷ []

unfoldable pub word_moves_record : List (List ℕ × ℕ) → ℕ → Moves → ℕ → List PlainField
word_moves_record names orders moves word =
    numbers_record names orders moves.took word (moves.free word) (best_of moves word)
    (times_of moves word)
