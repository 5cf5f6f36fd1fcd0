-- Part of the public promise: what is said of a file that is refused, or kept.
use Rattle.std.specs.Prelude.{ℕ, List, [], ◌++◌, codes, decimal}
use Rattle.lgp_desk.specs.declared.files.FileTrouble.{FileTrouble}
use Rattle.lgp_desk.specs.declared.files.FileTrouble.TheVariants as troubles

-- why a file is refused
abbrev pub fixed_trouble : FileTrouble → List ℕ
fixed_trouble troubles.NotOpened = codes "it cannot be opened"
fixed_trouble troubles.NotRead = codes "it cannot be read"
fixed_trouble troubles.TooLong = codes "it has more than 16777216 bytes"
fixed_trouble troubles.NotNamed = codes "this is not a file name"
fixed_trouble troubles.TooDeep = codes "16 files are already open, each from the one before"
fixed_trouble troubles.HasPoint = codes "a line with only a point would end the source"
fixed_trouble troubles.LongTape = codes "it has more than 1048576 codes"
fixed_trouble troubles.NotWritten = codes "it cannot be written, and is unchanged"
fixed_trouble trouble = []

abbrev pub counted_trouble : FileTrouble → List ℕ
counted_trouble (troubles.BadSign place line) =
    codes "the byte at place " ++ (decimal place ++ (codes ", counting from 0, in line "
    ++ (decimal line ++ codes ", does not begin a tape sign")))
counted_trouble (troubles.NoCode place) =
    codes "the byte at place " ++ (decimal place ++ codes ", counting from 0, is above 63")
counted_trouble (troubles.BadLine line) =
    codes "line " ++ (decimal line
    ++ codes " is not a word in the form that SIMH shows or accepts")
counted_trouble (troubles.LowAddress line) =
    codes "the address of line " ++ (decimal line
    ++ codes " is not above that of the line before it")
counted_trouble trouble = []

-- the refusal of a file
unfoldable pub trouble_text : List ℕ → FileTrouble → List ℕ
trouble_text name trouble =
    codes "? 13 File " ++ (name ++ (codes ": "
    ++ (fixed_trouble trouble ++ (counted_trouble trouble ++ codes "\n"))))

-- that something was kept
unfoldable pub kept_text : List ℕ → List ℕ
kept_text name = codes "saved " ++ (name ++ codes "\n")

-- ---- where a line comes from: nothing is said of one that is typed

-- a line of a file, by its number counted from 1
unfoldable pub line_note : ℕ → List ℕ → List ℕ
line_note number name = codes "line " ++ (decimal number ++ (codes " of " ++ name))
