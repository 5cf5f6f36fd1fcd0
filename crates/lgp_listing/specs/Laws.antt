-- Part of the public promise: laws on the definitions of this crate. This project's own choice.
use Rattle.std.specs.Prelude.{◌≡◌, ◌≢◌, ℕ, ◌+◌, ◌≤◌, ◌++◌, None, List, [], ◌∷◌, length, codes}
use Rattle.bstr.specs.Text.{lines_of}
use Rattle.lgp_word.specs.Address.{IsAddress}
use Rattle.lgp_word.specs.Word.{IsWord}
use Rattle.lgp_assembler.specs.Image.{faults_of, image_of}
use Rattle.lgp_listing.specs.Dump.{cell_line}

-- ---- each disassembled word assembles

-- the source of one space and a text, and of an end line
abbrev pub one_line : List ℕ → List ℕ
one_line text = codes " " ++ text ++ codes "\n end"

-- a source without a fault whose one word, at 0000, is this one, without a start and without a name
pub record AssemblesTo (source : List ℕ) (word : ℕ) : Type 0 where
  pub faultless : faults_of source ≡ []
  pub image : image_of source ≡ record { cells = (0, word) ∷ []; start = None; symbols = [] }

-- ---- the first fault of a text is the first

-- a line in form is that of an address and of a word that is not zero
pub record IsLineOf (cell : ℕ × ℕ) (line : List ℕ) : Type 0 where
  pub address_is : IsAddress cell.0
  pub word_is : IsWord cell.1
  pub some : cell.1 ≢ 0
  pub line_is : line ≡ cell_line cell.0 cell.1

-- lines in form whose addresses go up, the first at least `least`
abbrev pub AreSound : ℕ → List (List ℕ) → Type 0
AreSound least [] = Unit {0}
AreSound least (line ∷ lines) =
    (cell : ℕ × ℕ) × IsLineOf cell line × (least ≤ cell.0) × AreSound (cell.0 + 1) lines

-- all lines before the line of this number are sound, and it is not in form
pub record IsFormFault (text : List ℕ) (number : ℕ) : Type 0 where
  pub before : List (List ℕ)
  pub line : List ℕ
  pub after : List (List ℕ)
  pub lines_are : lines_of text ≡ before ++ line ∷ after
  pub number_is : number ≡ length before + 1
  pub sound : AreSound 0 before
  pub misformed : (cell : ℕ × ℕ) → ¬ (IsLineOf cell line)

-- all lines before the line of this number are sound, and it is in form with an address that is not
-- above that of the line before it
pub record IsOrderFault (text : List ℕ) (number : ℕ) : Type 0 where
  pub before : List (List ℕ)
  pub last : List ℕ
  pub line : List ℕ
  pub after : List (List ℕ)
  pub lines_are : lines_of text ≡ before ++ last ∷ line ∷ after
  pub number_is : number ≡ length before + 2
  pub sound : AreSound 0 (before ++ last ∷ [])
  pub last_cell : ℕ × ℕ
  pub last_is : IsLineOf last_cell last
  pub cell : ℕ × ℕ
  pub line_is : IsLineOf cell line
  pub not_above : cell.0 ≤ last_cell.0
