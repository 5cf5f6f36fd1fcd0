-- Part of the public promise: the words of a drum as commands to the simulator lgp of SIMH, and as
-- it shows them. The switch -l has digits of the LGP-30 written, and -t addresses by track and
-- sector.
use Rattle.std.specs.Prelude.{ℕ, ◌+◌, ◌++◌, ◌==◌, if◌then◌else◌, List, [], ◌∷◌, map, codes}
use Rattle.std.specs.Char.{to_ascii_uppercase}
use Rattle.lgp_word.specs.Digits.{address_digits, digits_of}
use Rattle.lgp_listing.specs.Dump.{cell_line}

-- the lines of words from an address on, each word by its own
abbrev pub lines_from : (ℕ → ℕ → List ℕ) → ℕ → List ℕ → List ℕ
lines_from line address [] = []
lines_from line address (word ∷ words) = line address word ++ lines_from line (address + 1) words

-- the command that puts a word at an address: in it the line of a dump
abbrev pub deposit_line : ℕ → ℕ → List ℕ
deposit_line address word = codes "d -lt " ++ cell_line address word

-- words of zeros have no command
abbrev pub used_deposit : ℕ → ℕ → List ℕ
used_deposit address word = if word == 0 then [] else deposit_line address word

-- the commands that put a drum's words on a drum of zeros
unfoldable pub deposits_of : List ℕ → List ℕ
deposits_of words = lines_from used_deposit 0 words

-- the line by which `ex -lt` shows a word, with capital digits
abbrev pub shown_line : ℕ → ℕ → List ℕ
shown_line address word =
    address_digits address ++ codes ":\t" ++ map to_ascii_uppercase (digits_of word) ++ codes "\n"

-- what `ex -lt 0-6363` shows of a drum's words
unfoldable pub shown_words : List ℕ → List ℕ
shown_words words = lines_from shown_line 0 words
