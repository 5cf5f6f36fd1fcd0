-- Dumps that are restored.
use Rattle.std.proofs.Common.{◌≡◌, ◌<◌, ◌+◌, ◌++◌, ◌==◌, ℕ, Bool, true, false, cond, ◌&&◌, ◌||◌, not, is_none, is_some, List, [], ◌∷◌, ◌≤◌, codes, decimal, length, drop, get_or, set, fold, map, Option, Some, None, Result, Err, refl, sym, ap, subst, ◌∙◌}
use Rattle.std.specs.List.{AllByRecursion}
use Rattle.std.specs.Option.{IfNone, IfSome, option_map_or}
use Rattle.std.specs.Result.{IfErr, IsErrOf}
use Rattle.std.proofs.lemmas.List.{append_assoc, append-nil, drop_all, drop_more}
use Rattle.bstr.specs.Text.{lines_of}
use Rattle.lgp_word.specs.Drum.{blank_words}
use Rattle.lgp_stream.specs.Transcript.{IsLine, Recorded, after_lines}
use Rattle.lgp_stream.proofs.AfterLemmas.{after-append, after-none}
use Rattle.lgp_listing.specs.Dump.{IsDrum, cell_in, dump_of, first_fault}
use Rattle.lgp_listing.specs.declared.reading.DumpFault.{DumpFault}
use Rattle.lgp_listing.specs.declared.reading.DumpFault.TheVariants.{Memory}
use Rattle.lgp_listing.proofs.ReadingSteps.{IsReadSo, in_form, read_all, read_more, read_none}
use Rattle.lgp_listing.proofs.DumpsReadBack.{dump_faultless, one_drum}
use Rattle.lgp_script.specs.Script.{script_language}
use Rattle.lgp_script.specs.LabState.{LabState}
use Rattle.lgp_monitor.specs.FileTexts.{cells_changed, changed_cells, dump_fault_text, dumped_words, put_cell, refuses_dump, restore_lines, restore_reply, rests_at}
use Rattle.lgp_script.specs.declared.refusal.Refusal.TheVariants.{Moving}
use Rattle.lgp_monitor.specs.Reasons.{refused_text}
use Rattle.lgp_monitor.proofs.LineLemmas.{free-put}

-- ---- the words of a dump

record IsDumpOf (text words : List ℕ) : Type 0 where
  pub is_drum : IsDrum words
  pub text_is : dump_of words ≡ text

abbrev with_cell : List ℕ → Option (ℕ × ℕ) → List ℕ
with_cell words read = option_map_or (λ cell. set words cell.0 cell.1) read words

abbrev with_read : List ℕ → List ℕ → List ℕ
with_read words line = with_cell words (cell_in line)

read_on : (number least : ℕ) (words : List ℕ) (lines : List (List ℕ)) (text : List ℕ)
    → IsReadSo number least words lines text → IsDumpOf text (fold with_read words lines)
read_on number least words [] text so =
    record { is_drum = so.is_drum; text_is = read_all number least words [] text so refl }
read_on number least words (line ∷ rest) text so =
    by_cell (cell_in line) refl
    (λ cell read. read_on (number + 1) (cell.0 + 1) (set words cell.0 cell.1) rest text
    (read_more number least words line rest text so cell read)) where
      by_cell : (cell : Option (ℕ × ℕ)) → cell_in line ≡ cell
          → ((read : ℕ × ℕ) → cell_in line ≡ Some read → IsDumpOf text (fold with_read (set words read.0 read.1) rest))
          → IsDumpOf text (fold with_read (with_cell words (cell_in line)) rest)
      by_cell None e more = absurd (in_form number least words line rest text so e)
      by_cell (Some cell) e more =
          subst (λ (read : Option (ℕ × ℕ)). IsDumpOf text (fold with_read (with_cell words read) rest)) (sym e) (more cell e)

pub drum_is_dumped : (drum text : List ℕ) → IsDrum drum → dump_of drum ≡ text → drum ≡ dumped_words text
unfolding dumped_words
drum_is_dumped drum text is_drum is =
    let read = read_on 1 0 blank_words (lines_of text) text
    (read_none blank_words text refl (dump_faultless drum text is_drum (sym is))) in
    one_drum drum (fold with_read blank_words (lines_of text)) is_drum read.is_drum (is ∙ sym read.text_is)

-- ---- the words that change, one place more

pub changed_more : (cells whole : List (ℕ × ℕ)) (olds news : List ℕ) (i : ℕ) → i < length olds → i < length news
    → cells ++ changed_cells i (drop i olds) (drop i news) ≡ whole
    → (cells ++ cond (get_or olds i 0 == get_or news i 0) [] ((i, get_or news i 0) ∷ []))
    ++ changed_cells (i + 1) (drop (i + 1) olds) (drop (i + 1) news) ≡ whole
unfolding changed_cells
changed_more cells whole olds news i within_olds within_news e =
    let old = get_or olds i 0 in
    let new = get_or news i 0 in
    append_assoc cells (cond (old == new) [] ((i, new) ∷ [])) (changed_cells (i + 1) (drop (i + 1) olds) (drop (i + 1) news))
    ∙ ap (λ (t : List (ℕ × ℕ)). cells ++ t)
    (sym (ap (λ (l : List ℕ). changed_cells i l (drop i news)) (drop_more olds i 0 within_olds)
    ∙ ap (λ (l : List ℕ). changed_cells i (old ∷ drop (i + 1) olds) l) (drop_more news i 0 within_news)))
    ∙ e

pub changed_all : (cells whole : List (ℕ × ℕ)) (olds news : List ℕ) (i : ℕ) → length olds ≤ i
    → cells ++ changed_cells i (drop i olds) (drop i news) ≡ whole → cells ≡ whole
unfolding changed_cells
changed_all cells whole olds news i past e =
    sym (ap (λ (l : List ℕ). cells ++ changed_cells i l (drop i news)) (drop_all i olds past) ∙ append-nil cells) ∙ e

-- ---- words put one after another

pub put_more : (now next whole : Recorded LabState) (line : List ℕ) (cells : List (ℕ × ℕ)) (i : ℕ) (d : ℕ × ℕ) → i < length cells
    → line ≡ put_cell (get_or cells i d) → next ≡ after_lines script_language now (line ∷ [])
    → after_lines script_language now (map put_cell (drop i cells)) ≡ whole
    → after_lines script_language next (map put_cell (drop (i + 1) cells)) ≡ whole
put_more now next whole line cells i d within is_line is_next e =
    let cell = get_or cells i d in
    let more = map put_cell (drop (i + 1) cells) in
    ap (λ (r : Recorded LabState). after_lines script_language r more)
    (is_next ∙ ap (λ (l : List ℕ). after_lines script_language now (l ∷ [])) is_line)
    ∙ after-append script_language now (put_cell cell ∷ []) more
    ∙ ap (λ (cs : List (ℕ × ℕ)). after_lines script_language now (map put_cell cs)) (sym (drop_more cells i d within))
    ∙ e

pub put_all : (now whole : Recorded LabState) (cells : List (ℕ × ℕ)) (i : ℕ) → length cells ≤ i
    → after_lines script_language now (map put_cell (drop i cells)) ≡ whole → now ≡ whole
put_all now whole cells i past e =
    sym (ap (λ (cs : List (ℕ × ℕ)). after_lines script_language now (map put_cell cs)) (drop_all i cells past)
    ∙ after-none script_language now) ∙ e

abbrev lines_if : Bool → List (ℕ × ℕ) → List (List ℕ)
lines_if put cells = cond put (map put_cell cells) []

pub not_put : (recorded : Recorded LabState) (rests : Bool) (cells : List (ℕ × ℕ)) → rests ≡ false
    → recorded ≡ after_lines script_language recorded (lines_if rests cells)
not_put recorded rests cells e =
    sym (ap (λ (b : Bool). after_lines script_language recorded (lines_if b cells)) e
    ∙ after-none script_language recorded)

-- ---- a text that is a drum's dump, and one that is none

abbrev restored_text : Bool → ℕ → List ℕ
restored_text rests count = cond rests (codes "restored " ++ (decimal count ++ codes "\n")) (refused_text Moving)

abbrev words_at : Recorded LabState → List ℕ
words_at recorded = recorded.state.debugger.state.core.words

pub restored_reply : (recorded : Recorded LabState) (drum dump : List ℕ) → IsDrum drum → dump_of drum ≡ dump
    → restored_text (rests_at recorded) (length (changed_cells 0 (words_at recorded) drum)) ≡ restore_reply recorded dump
unfolding restore_reply
restored_reply recorded drum dump is_drum is =
    ap (λ (words : List ℕ). restored_text (rests_at recorded) (length (changed_cells 0 (words_at recorded) words)))
    (drum_is_dumped drum dump is_drum is)
    ∙ ap (λ (fault : Option DumpFault). option_map_or dump_fault_text fault (restored_text (rests_at recorded) (length (cells_changed recorded dump))))
    (sym (dump_faultless drum dump is_drum (sym is)))

pub restored_lines : (recorded : Recorded LabState) (drum dump : List ℕ) → IsDrum drum → dump_of drum ≡ dump
    → lines_if (rests_at recorded) (changed_cells 0 (words_at recorded) drum) ≡ restore_lines recorded dump
unfolding restore_lines
restored_lines recorded drum dump is_drum is =
    ap (λ (words : List ℕ). lines_if (rests_at recorded) (changed_cells 0 (words_at recorded) words))
    (drum_is_dumped drum dump is_drum is)
    ∙ ap (λ (fault : Option DumpFault). lines_if (is_none fault && rests_at recorded) (cells_changed recorded dump))
    (sym (dump_faultless drum dump is_drum (sym is)))

pub faulty_reply : (recorded : Recorded LabState) (dump : List ℕ) (fault : DumpFault) → first_fault dump ≡ Some fault
    → dump_fault_text fault ≡ restore_reply recorded dump
unfolding restore_reply
faulty_reply recorded dump fault is =
    sym (ap (λ (found : Option DumpFault). option_map_or dump_fault_text found (restored_text (rests_at recorded) (length (cells_changed recorded dump)))) is)

-- whether it is refused
pub restored_refused : (recorded : Recorded LabState) (drum dump : List ℕ) → IsDrum drum → dump_of drum ≡ dump → not (rests_at recorded) ≡ refuses_dump recorded dump
unfolding refuses_dump
restored_refused recorded drum dump is_drum is =
    ap (λ (fault : Option DumpFault). is_some fault || not (rests_at recorded)) (sym (dump_faultless drum dump is_drum (sym is)))

pub faulty_refused : (recorded : Recorded LabState) (dump : List ℕ) (fault : DumpFault) → first_fault dump ≡ Some fault → true ≡ refuses_dump recorded dump
unfolding refuses_dump
faulty_refused recorded dump fault is = sym (ap (λ (found : Option DumpFault). is_some found || not (rests_at recorded)) is)

pub faulty_after : (recorded : Recorded LabState) (dump : List ℕ) (fault : DumpFault) → first_fault dump ≡ Some fault
    → recorded ≡ after_lines script_language recorded (restore_lines recorded dump)
unfolding restore_lines
faulty_after recorded dump fault is =
    sym (ap (λ (found : Option DumpFault). after_lines script_language recorded (lines_if (is_none found && rests_at recorded) (cells_changed recorded dump))) is
    ∙ after-none script_language recorded)

-- the fault that is reported is the first one, where it is not want of memory
pub fault_is : {T : Type 0} (result : Result T DumpFault) (fault : DumpFault) (found : Option DumpFault) → result ≡ Err fault → (fault ≡ Memory → ⊥)
    → IfSome found (λ first. IsErrOf result first) → IfNone found (IfErr result (λ reported. reported ≡ Memory)) → found ≡ Some fault
fault_is {T} result fault (Some first) is known faulty faultless = ap Some (same first fault (sym faulty ∙ is)) where
  same : (one other : DumpFault) → ◌≡◌ {A = Result T DumpFault} (Err one) (Err other) → one ≡ other
  same one other e = cc (e)
fault_is {T} result fault None is known faulty faultless =
    absurd (known (subst (λ (r : Result T DumpFault). IfErr r (λ reported. reported ≡ Memory)) is faultless))

-- ---- the lines of a script are lines of a text

free-cells : (cells : List (ℕ × ℕ)) → AllByRecursion IsLine (map put_cell cells)
free-cells [] = tt
free-cells (cell ∷ more) = (free-put cell.0 cell.1, free-cells more)

free-restoring : (put : Bool) (cells : List (ℕ × ℕ)) → AllByRecursion IsLine (lines_if put cells)
free-restoring true cells = free-cells cells
free-restoring false cells = tt

pub free-restored : (recorded : Recorded LabState) (dump : List ℕ) → AllByRecursion IsLine (restore_lines recorded dump)
unfolding restore_lines
free-restored recorded dump = free-restoring (is_none (first_fault dump) && rests_at recorded) (cells_changed recorded dump)
