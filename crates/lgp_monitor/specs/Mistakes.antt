-- Part of the public promise: what is wrong with a word of a line that is in no command's form.
use Rattle.std.specs.Prelude.{ℕ, ◌==◌, ◌&&◌, ◌||◌, nat_lt, not, Bool, false, if◌then◌else◌}
use Rattle.std.specs.Prelude.{is_none, is_some}
use Rattle.std.specs.Prelude.{List, [], ◌++◌, codes, drop, length, slice_get, slice_index, take}
use Rattle.std.specs.Char.{is_ascii_digit, is_ascii_uppercase}
use Rattle.std.specs.List.{list_all, list_any}
use Rattle.std.specs.Option.{option_map_or}
use Rattle.std.specs.Str.{byte, bytes_eq}
use Rattle.lgp_word.specs.Decimal.{decimal_number}
use Rattle.lgp_word.specs.Digits.{word_of_digits}
use Rattle.lgp_word.specs.Order.{op_of_letter}
use Rattle.lgp_assembler.specs.declared.operands.OperandFault.{OperandFault}
use Rattle.lgp_assembler.specs.declared.operands.OperandFault.TheVariants.{Misformed, Unknown}
use Rattle.lgp_assembler.specs.declared.operands.OperandFault.TheVariants.{Outside}
use Rattle.lgp_monitor.specs.declared.mistake.Mistake.{Mistake}
use Rattle.lgp_monitor.specs.declared.mistake.Mistake.TheVariants as mistakes

-- what is said of a word, after it
abbrev pub mistake_text : Mistake → List ℕ
mistake_text mistakes.Capital = codes " has a capital letter; only small letters are accepted"
mistake_text mistakes.Digits =
    codes " is not an address: it needs two digits for the track and two for the sector"
mistake_text mistakes.Track = codes " is not an address: tracks run from 00 to 63"
mistake_text mistakes.Sector = codes " is not an address: sectors run from 00 to 63"
mistake_text mistakes.Address =
    codes " is not an address: write a label, or a track and a sector, each from 00 to 63"
mistake_text mistakes.Label = codes " is not a label in the last source"
mistake_text mistakes.Drum = codes " is not on the drum"
mistake_text mistakes.Blank = codes " needs a space between the order and its address"
mistake_text mistakes.LetterDigit =
    codes " has l or o, which mean 1 and 0 only on a tape"
mistake_text mistakes.Odd = codes " is odd, but the last bit of a word is always 0"
mistake_text mistakes.Equals = codes " needs a space after the ="
mistake_text mistakes.Number = codes " is a plain number, not eight digits: did you mean = "
mistake_text mistakes.Whole =
    codes " is not a whole number that fits with its point; write a fraction without ="
mistake_text mistakes.Point = codes " needs a number and the place of its point, as in int 5 30"
mistake_text mistakes.Value = codes " is not eight digits, a fraction or an operation"

-- what a plain number may have been meant as: a whole number or a fraction
abbrev pub meant_text : List ℕ → Mistake → List ℕ
meant_text word mistakes.Number = word ++ (codes " or ." ++ (word ++ codes "?"))
meant_text word mistake = []

-- a word, and what is said of it
abbrev pub said_of : List ℕ → Mistake → List ℕ
said_of word mistake = word ++ (mistake_text mistake ++ meant_text word mistake)

abbrev pub has_capital : List ℕ → Bool
has_capital word = list_any is_ascii_uppercase word

-- at most 18 digits, and one at least
abbrev pub are_digits : List ℕ → Bool
are_digits word = is_some (decimal_number 18 word)

-- two decimal digits above 63
abbrev pub is_beyond_63 : List ℕ → Bool
is_beyond_63 digits = option_map_or (nat_lt 63) (decimal_number 2 digits) false

-- of a word that is in no address's form
abbrev pub misformed_address : List ℕ → Mistake
misformed_address word =
    if has_capital word then mistakes.Capital
    else (if not (are_digits word) then mistakes.Address
    else (if not (length word == 4) then mistakes.Digits
    else (if is_beyond_63 (take 2 word) then mistakes.Track else mistakes.Sector)))

abbrev pub address_mistake : OperandFault → List ℕ → Mistake
address_mistake Misformed word = misformed_address word
address_mistake Unknown word = mistakes.Label
address_mistake Outside word = mistakes.Drum

-- an order's letter with digits after it
abbrev pub is_order_with_digits : List ℕ → Bool
is_order_with_digits word =
    option_map_or (λ letter. is_some (op_of_letter letter)) (slice_get word 0) false
    && are_digits (drop 1 word)

abbrev pub is_l_or_o : ℕ → Bool
is_l_or_o b = b == byte "l" || b == byte "o"

abbrev pub has_l_or_o : List ℕ → Bool
has_l_or_o word = list_any is_l_or_o word

unfoldable pub is_word_digit : ℕ → Bool
is_word_digit b =
    is_ascii_digit b || b == byte "f" || b == byte "g" || b == byte "j" || b == byte "k"
    || b == byte "q" || b == byte "w"

abbrev pub are_word_digits : List ℕ → Bool
are_word_digits word = list_all is_word_digit word

-- of a word that is none of the words with which a value may begin
abbrev pub number_mistake : List ℕ → Mistake
number_mistake word =
    if are_digits word then mistakes.Number
    else (if slice_index word 0 == byte "=" then mistakes.Equals else mistakes.Value)

-- of a word that is no value of `put`; eight digits that are no word are those of an odd number
abbrev pub value_mistake : List ℕ → Mistake
value_mistake word =
    if has_capital word then mistakes.Capital
    else (if is_order_with_digits word then mistakes.Blank
    else (if length word == 8 && has_l_or_o word then mistakes.LetterDigit
    else (if length word == 8 && are_word_digits word && is_none (word_of_digits word)
    then mistakes.Odd else number_mistake word)))

-- whether a word of a value is an operation with an address
abbrev pub takes_place : List ℕ → Bool
takes_place word =
    bytes_eq word (codes "-t")
    || (length word == 1 && is_some (op_of_letter (slice_index word 0)))

-- whether it is one with other operands, or `=`
abbrev pub takes_numbers : List ℕ → Bool
takes_numbers word =
    bytes_eq word (codes "=") || bytes_eq word (codes "word") || bytes_eq word (codes "frac")
    || bytes_eq word (codes "int") || bytes_eq word (codes "org") || bytes_eq word (codes "end")
