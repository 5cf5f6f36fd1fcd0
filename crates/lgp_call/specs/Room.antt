-- Part of the public promise: a text in the room that a caller gives for it.
use Rattle.std.specs.Prelude.{ℕ, List, ◌++◌, length, take, drop}

-- a room after a text that was written into it: the text's front, as far as there is room, and
-- after a shorter text what was there
abbrev pub filled : List ℕ → List ℕ → List ℕ
filled text room = take (length room) text ++ drop (length text) room
