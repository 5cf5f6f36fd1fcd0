-- Part of the public promise: the script language, what is answered to a source, and to the
-- commands that use it.
use Rattle.std.specs.Prelude.{ℕ, ◌++◌, if◌then◌else◌, is_some, Option, Some, None, List, [], ◌∷◌}
use Rattle.std.specs.Option.{option_map_or}
use Rattle.std.specs.Prelude.{length, codes, decimal}
use Rattle.std.specs.Str.{bytes_eq}
use Rattle.lgp_word.specs.Digits.{address_digits}
use Rattle.lgp_assembler.specs.Image.{faults_of, image_of}
use Rattle.lgp_assembler.specs.KindNames.{kind_name}
use Rattle.lgp_assembler.specs.Parts.{ImageParts}
use Rattle.lgp_assembler.specs.declared.refusal.Fault.{Fault}
use Rattle.lgp_listing.specs.Listing.{listing_of}
use Rattle.lgp_script.specs.SourceText.{SourceText, with_line}
use Rattle.lgp_script.specs.LabState.{Answer, LabState, refused, silent}
use Rattle.lgp_script.specs.Reply.{Replied, refusing, replying}
use Rattle.lgp_script.specs.declared.refusal.Refusal.TheVariants as refusals
use Rattle.lgp_script.specs.declared.reply.Reply.TheVariants as replies

-- ---- source

-- the line of a fault: its line's number and its kind
abbrev pub fault_line : Fault → List ℕ
fault_line fault =
    codes "line " ++ (decimal fault.line ++ (codes " " ++ (kind_name fault.kind ++ codes "\n")))

-- the lines of faults
unfoldable pub faults_text : List Fault → List ℕ
faults_text [] = []
faults_text (fault ∷ more) = fault_line fault ++ faults_text more

-- how many words a source has made, and where it starts
abbrev pub start_text : Option ℕ → List ℕ
start_text start =
    option_map_or (λ address. address_digits address ++ codes "\n") start (codes "none\n")

abbrev pub cells_text : ImageParts → List ℕ
cells_text image =
    codes "cells " ++ (decimal (length image.cells) ++ (codes " start " ++ start_text image.start))

-- the answer to a source by its faults; with faults the one that assembled before stays too
abbrev pub assembled : LabState → List ℕ → List Fault → Answer
assembled lab text [] = record {
  reply = cells_text (image_of text);
  after = record lab { source = Some text; faulty = None };
}
assembled lab text (fault ∷ more) = record {
  reply = codes "? 9 Faults\n" ++ faults_text (fault ∷ more);
  after = record lab { faulty = Some text };
}

-- the answer to a source at its end, which closes it
abbrev pub answer_to_end : LabState → SourceText → Answer
answer_to_end lab source =
    let after : LabState = record lab { opened = None } in
    if source.too_long then refused refusals.TooLong after
    else assembled after source.text (faults_of source.text)

-- the open source is closed, if there is one
unfoldable pub closed : LabState → Answer
closed lab = option_map_or (answer_to_end lab) lab.opened (silent lab)

-- a line of an open source: a point alone closes it
abbrev pub answer_in_source : LabState → SourceText → List ℕ → Answer
answer_in_source lab source line =
    if bytes_eq line (codes ".") then answer_to_end lab source
    else silent (record lab { opened = Some (with_line source line) })

-- ---- list

-- the listing of the last source that assembled, where there is one
unfoldable pub list_text : Option (List ℕ) → List ℕ
list_text source = option_map_or listing_of source []

abbrev pub replied_to_list : LabState → Replied
replied_to_list lab =
    if is_some lab.source then replying replies.List lab else refusing refusals.NoImage lab
