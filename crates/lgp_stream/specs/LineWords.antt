-- Part of the public promise: the words of a line, which are separated by spaces.
use Rattle.std.specs.Prelude.{ℕ, ◌==◌, Bool, not, List, drop}
use Rattle.std.specs.Str.{byte}
use Rattle.std.specs.List.{before_first, list_all, position_or_len}

abbrev pub is_space : ℕ → Bool
is_space character = character == byte " "

abbrev pub is_visible : ℕ → Bool
is_visible character = not (is_space character)

-- a text from its first byte on that is no space
unfoldable pub without_spaces : List ℕ → List ℕ
without_spaces text = drop (position_or_len is_visible text) text

-- the first word of a text, and what comes after it
unfoldable pub first_word : List ℕ → List ℕ
first_word text = before_first is_space (without_spaces text)

unfoldable pub after_word : List ℕ → List ℕ
after_word text = drop (position_or_len is_space (without_spaces text)) (without_spaces text)

-- there is no word on it
unfoldable pub has_no_word : List ℕ → Bool
has_no_word text = list_all is_space text
