-- What is answered after a source was closed is the reply to its end.
use Rattle.std.proofs.Common.{◌≡◌, ◌∙◌, ℕ, ◌==◌, ◌&&◌, ◌||◌, not, Bool, true, false, cond, is_some, unwrap_or, Option, Some, None, List, [], ◌∷◌, ◌++◌, codes, flat_map, length, refl, sym, ap, arith}
use Rattle.std.specs.Option.{option_map_or}
use Rattle.std.specs.Str.{byte, bytes_eq}
use Rattle.std.proofs.lemmas.Bool.Decides.{nat_tests}
use Rattle.std.proofs.lemmas.List.{append-nil}
use Rattle.std.proofs.lemmas.Slice.Eq.{bytes_eq-Decides}
use Rattle.lgp_source.specs.Source.{lines_of}
use Rattle.lgp_assembler.specs.Image.{faults_of}
use Rattle.lgp_assembler.specs.declared.refusal.Fault.{Fault}
use Rattle.lgp_stream.specs.KeptLine.{Kept}
use Rattle.lgp_stream.specs.Transcript.{Recorded, after_lines, lines_answered, replies_text, stand_in}
use Rattle.lgp_script.specs.LabState.{LabState, opened_text, refused, silent}
use Rattle.lgp_script.specs.Script.{answer_to_command, answer_to_line, script_language}
use Rattle.lgp_script.specs.SourceCommands.{answer_to_end, assembled, closed}
use Rattle.lgp_script.specs.SourceCommands as sources
use Rattle.lgp_script.specs.SourceText.{SourceText}
use Rattle.lgp_script.specs.declared.refusal.Refusal.TheVariants.{TooLong}
use Rattle.lgp_monitor.specs.Closing.{closes_faulty, closing_reply, is_faulty, is_source_end, marked_fault, shown_faults}
use Rattle.lgp_monitor.specs.ClosingInside.{closed_text, faulty_text}
use Rattle.lgp_monitor.specs.Monitor.{answer_in_source, answered_with}
use Rattle.lgp_monitor.specs.Reasons.{refused_text}

-- a source by its faults
by_faults : (lab : LabState) (source : List ℕ) (faults : List Fault) (said : List ℕ) → faults_of source ≡ faults
    → faulty_text (assembled lab source faults).after.faulty said
    ≡ unwrap_or (cond ((length source == 0) || (length faults == 0)) None (Some (codes "? 9 Faults\n" ++ flat_map (marked_fault (lines_of source)) faults))) said
by_faults lab source [] said e = by_test (length source == 0) where
  by_test : (empty : Bool) → said ≡ unwrap_or (cond (empty || true) None (Some (codes "? 9 Faults\n" ++ []))) said
  by_test true = refl
  by_test false = refl
by_faults lab source (fault ∷ more) said e =
    ap (λ (faults : List Fault). cond (length source == 0) said (codes "? 9 Faults\n" ++ flat_map (marked_fault (lines_of source)) faults)) e
    ∙ by_test (length source == 0) (length (fault ∷ more) == 0) (grind (arith, nat_tests)) where
      by_test : (empty none : Bool) → none ≡ false → cond empty said (codes "? 9 Faults\n" ++ flat_map (marked_fault (lines_of source)) (fault ∷ more))
          ≡ unwrap_or (cond (empty || none) None (Some (codes "? 9 Faults\n" ++ flat_map (marked_fault (lines_of source)) (fault ∷ more)))) said
      by_test true none some = refl
      by_test false true some = cc (some)
      by_test false false some = refl

-- and one that is too long or not
by_length : (lab : LabState) (text said : List ℕ) (long : Bool)
    → closed_text (cond long (refused TooLong lab) (assembled lab text (faults_of text))).after.faulty long said
    ≡ unwrap_or (cond long (Some (refused_text TooLong)) (shown_faults text)) said
by_length lab text said true = refl
by_length lab text said false = by_faults lab text (faults_of text) said refl

-- the line that ends a source, as the laboratory gets it
end_line : (kept : Kept) → is_source_end kept ≡ true → stand_in kept ≡ codes "."
unfolding stand_in
end_line kept e = by_longer kept.longer kept.blank e where
  by_longer : (longer blank : Bool) → (not longer && bytes_eq kept.front (codes ".")) ≡ true → cond longer (kept.front ++ cond blank (byte " ") (byte ".") ∷ []) kept.front ≡ codes "."
  by_longer true blank is = cc (is)
  by_longer false blank is = (bytes_eq-Decides kept.front (codes ".")).0 is

open_ended : (lab : LabState) (said : List ℕ) (opened : Option SourceText) → lab.opened ≡ opened → is_some opened ≡ true
    → closed_text (answer_to_line lab (codes ".")).after.faulty (option_map_or (λ (s : SourceText). s.too_long) opened false) said
    ≡ unwrap_or (cond (option_map_or (λ (s : SourceText). s.too_long) opened false) (Some (refused_text TooLong)) (shown_faults (opened_text opened))) said
unfolding answer_to_line opened_text
open_ended lab said None e is = cc (is)
open_ended lab said (Some source) e is =
    ap (λ (opened : Option SourceText). closed_text (option_map_or (λ (s : SourceText). sources.answer_in_source lab s (codes ".")) opened (answer_to_command lab (codes "."))).after.faulty source.too_long said) e
    ∙ by_length (record lab { opened = None }) source.text said source.too_long

pub closed_reply : (lab : LabState) (kept : Kept) (said : List ℕ) → is_some lab.opened ≡ true → is_source_end kept ≡ true
    → closed_text (answer_to_line lab (stand_in kept)).after.faulty (option_map_or (λ (s : SourceText). s.too_long) lab.opened false) said
    ≡ unwrap_or (closing_reply lab.opened kept) said
unfolding closing_reply
closed_reply lab kept said is_open end =
    let long : Bool = option_map_or (λ (s : SourceText). s.too_long) lab.opened false in
    ap (λ (line : List ℕ). closed_text (answer_to_line lab line).after.faulty long said) (end_line kept end)
    ∙ (open_ended lab said lab.opened refl is_open
    ∙ ap (λ (ends : Bool). unwrap_or (cond ends (cond long (Some (refused_text TooLong)) (shown_faults (opened_text lab.opened))) None) said) (sym end))

-- the same with what the laboratory holds after that line
pub closing_answered : (lab : LabState) (kept : Kept) (faulty : Option (List ℕ)) (long : Bool) (said replies before after : List ℕ) → is_some lab.opened ≡ true → is_source_end kept ≡ true
    → faulty ≡ (answer_to_line lab (stand_in kept)).after.faulty → long ≡ option_map_or (λ (s : SourceText). s.too_long) lab.opened false → said ≡ replies
    → after ≡ before ++ closed_text faulty long said → after ≡ before ++ unwrap_or (closing_reply lab.opened kept) replies
closing_answered lab kept faulty long said replies before after is_open end holds is_long is_said written =
    written
    ∙ (ap (λ (f : Option (List ℕ)). before ++ closed_text f long said) holds
    ∙ (ap (λ (b : Bool). before ++ closed_text (answer_to_line lab (stand_in kept)).after.faulty b said) is_long
    ∙ (ap (λ (t : List ℕ). before ++ closed_text (answer_to_line lab (stand_in kept)).after.faulty (option_map_or (λ (s : SourceText). s.too_long) lab.opened false) t) is_said
    ∙ ap (λ (t : List ℕ). before ++ t) (closed_reply lab kept replies is_open end))))

-- whether a source that was closed is refused: by its faults, and where it is too long
faulty_left : (lab : LabState) (text : List ℕ) (faults : List Fault) → is_some (assembled lab text faults).after.faulty ≡ not (length faults == 0)
faulty_left lab text [] = refl
faulty_left lab text (fault ∷ more) = by_test (length (fault ∷ more) == 0) (grind (arith, nat_tests)) where
  by_test : (none : Bool) → none ≡ false → true ≡ not none
  by_test none some = sym (ap not some)

faulty_by : (lab : LabState) (text : List ℕ) (long : Bool) → (long || is_some (cond long (refused TooLong lab) (assembled lab text (faults_of text))).after.faulty) ≡ (long || not (length (faults_of text) == 0))
faulty_by lab text true = refl
faulty_by lab text false = faulty_left lab text (faults_of text)

faulty_ended : (lab : LabState) (opened : Option SourceText) → lab.opened ≡ opened → is_some opened ≡ true
    → (option_map_or (λ (s : SourceText). s.too_long) opened false || is_some (answer_to_line lab (codes ".")).after.faulty) ≡ is_faulty opened
unfolding answer_to_line is_faulty
faulty_ended lab None e is = cc (is)
faulty_ended lab (Some source) e is =
    ap (λ (opened : Option SourceText). source.too_long || is_some (option_map_or (λ (s : SourceText). sources.answer_in_source lab s (codes ".")) opened (answer_to_command lab (codes "."))).after.faulty) e
    ∙ faulty_by (record lab { opened = None }) source.text source.too_long

pub ended_faulty : (lab : LabState) (faulty : Option (List ℕ)) (long : Bool) → is_some lab.opened ≡ true
    → faulty ≡ (answer_to_line lab (codes ".")).after.faulty → long ≡ option_map_or (λ (s : SourceText). s.too_long) lab.opened false → (long || is_some faulty) ≡ is_faulty lab.opened
ended_faulty lab faulty long is_open holds is_long =
    ap (λ (f : Option (List ℕ)). long || is_some f) holds
    ∙ (ap (λ (b : Bool). b || is_some (answer_to_line lab (codes ".")).after.faulty) is_long
    ∙ faulty_ended lab lab.opened refl is_open)

pub closed_faulty : (lab : LabState) (kept : Kept) (faulty : Option (List ℕ)) (long : Bool) → is_some lab.opened ≡ true → is_source_end kept ≡ true
    → faulty ≡ (answer_to_line lab (stand_in kept)).after.faulty → long ≡ option_map_or (λ (s : SourceText). s.too_long) lab.opened false → (long || is_some faulty) ≡ closes_faulty lab.opened kept
closed_faulty lab kept faulty long is_open end holds is_long =
    ended_faulty lab faulty long is_open (holds ∙ ap (λ (line : List ℕ). (answer_to_line lab line).after.faulty) (end_line kept end)) is_long
    ∙ sym (ap (λ (ends : Bool). ends && is_faulty lab.opened) end)

-- the end of lines closes a source as a point does, and else nothing is replied
pub closing_none : (lab : LabState) (opened : Option SourceText) → lab.opened ≡ opened → is_some opened ≡ false → [] ≡ script_language.closing lab
unfolding closed
closing_none lab None e is = sym (ap (λ (opened : Option SourceText). (option_map_or (answer_to_end lab) opened (silent lab)).reply) e)
closing_none lab (Some source) e is = cc (is)

pub none_faulty : (opened : Option SourceText) → is_some opened ≡ false → false ≡ is_faulty opened
unfolding is_faulty
none_faulty None shut = refl
none_faulty (Some source) shut = cc (shut)

pub closing_point : (recorded : Recorded LabState) (opened : Option SourceText) → recorded.state.opened ≡ opened → is_some opened ≡ true
    → replies_text script_language recorded (codes "." ∷ []) ≡ script_language.closing recorded.state
unfolding replies_text answer_to_line closed
closing_point recorded None e is = cc (is)
closing_point recorded (Some source) e is =
    append-nil _
    ∙ (ap (λ (opened : Option SourceText). (option_map_or (λ (s : SourceText). sources.answer_in_source recorded.state s (codes ".")) opened (answer_to_command recorded.state (codes "."))).reply) e
    ∙ sym (ap (λ (opened : Option SourceText). (option_map_or (answer_to_end recorded.state) opened (silent recorded.state)).reply) e))

-- where the laboratory is after a line
pub after_line : (recorded : Recorded LabState) (line : List ℕ) → (after_lines script_language recorded (line ∷ [])).state ≡ (answer_to_line recorded.state line).after
unfolding after_lines
after_line recorded line = refl

-- a line that ends no source
pub not_closing : (recorded : Recorded LabState) (kept : Kept) → is_source_end kept ≡ false → lines_answered script_language recorded (stand_in kept ∷ []) ≡ answer_in_source recorded kept
unfolding closing_reply
not_closing recorded kept other =
    ap (λ (ends : Bool). answered_with recorded (unwrap_or (cond ends (cond (option_map_or (λ (s : SourceText). s.too_long) recorded.state.opened false) (Some (refused_text TooLong)) (shown_faults (opened_text recorded.state.opened))) None)
    (replies_text script_language recorded (stand_in kept ∷ []))) (stand_in kept ∷ [])) (sym other)
