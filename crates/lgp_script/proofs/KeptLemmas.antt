-- What is kept of a line tells as much of it as its answer depends on.
use Rattle.std.proofs.Common.{◌≡◌, ◌≢◌, ◌∷◌, ℕ, ◌==◌, ◌||◌, ◌++◌, true, false, Some, None, List, [], codes, get_or, refl, sym, ap, ◌∙◌, arith}
use Rattle.std.specs.Str.{byte, bytes_eq}
use Rattle.lgp_stream.specs.KeptLine.{Kept, kept_of}
use Rattle.lgp_stream.specs.LineWords.{has_no_word}
use Rattle.lgp_stream.proofs.FrontLemmas.{first-take, front_kept, front_whole, longer_kept}
use Rattle.lgp_command.specs.Command.{command_of, text_after_word}
use Rattle.lgp_script.specs.Script.{answer_by, answer_to, answer_to_command, answer_to_line, is_passed_over}
use Rattle.lgp_assembler.specs.declared.refusal.Fault.{Fault}
use Rattle.lgp_script.specs.SourceCommands.{answer_in_source, answer_to_end, assembled, closed, faults_text}
use Rattle.lgp_script.specs.SourceText.{SourceText, with_bytes, with_line}
use Rattle.lgp_script.specs.LabState.{LabState, refused, silent}
use Rattle.lgp_script.specs.declared.refusal.Refusal.TheVariants.{Form, TooLong}
use Rattle.lgp_command.specs.declared.command.Command.{Command}

passed_over : (line : List ℕ) → ((kept_of line).blank || (get_or (kept_of line).front 0 0 == byte ";")) ≡ is_passed_over line
unfolding kept_of has_no_word
passed_over line = grind (arith, first-take)

pub passed_over_kept : (kept : Kept) (line : List ℕ) → kept ≡ kept_of line → (kept.blank || (get_or kept.front 0 0 == byte ";")) ≡ is_passed_over line
passed_over_kept kept line e = rw e (passed_over _)

-- a line that is passed over
pub answer_passed : (s : LabState) (line : List ℕ) → is_passed_over line ≡ true → answer_to_command s line ≡ silent s
unfolding answer_to_command
answer_passed s line passed = rw passed refl

-- a line that is longer than a command may be, and one that is not
longer_line : (s : LabState) (line : List ℕ) → is_passed_over line ≡ false → (kept_of line).longer ≡ true → answer_to_command s line ≡ refused TooLong s
unfolding kept_of answer_to_command
longer_line s line other longer = rw (other, longer) refl

pub answer_longer : (s : LabState) (kept : Kept) (line : List ℕ) → kept ≡ kept_of line → is_passed_over line ≡ false → kept.longer ≡ true → answer_to_command s line ≡ refused TooLong s
answer_longer s kept line e other longer = longer_line s _ other (sym (ap (λ (k : Kept). k.longer) e) ∙ longer)

short_line : (s : LabState) (line : List ℕ) → is_passed_over line ≡ false → (kept_of line).longer ≡ false → answer_to_command s line ≡ answer_by s (command_of (kept_of line).front) (text_after_word (kept_of line).front)
unfolding kept_of answer_to_command
short_line s line other short = rw (other, short, front_kept _ _ short) refl

pub answer_within : (s : LabState) (kept : Kept) (line : List ℕ) → kept ≡ kept_of line → is_passed_over line ≡ false → kept.longer ≡ false → answer_to_command s line ≡ answer_by s (command_of kept.front) (text_after_word kept.front)
answer_within s kept line e other short =
    grind (arith, short_line)

-- a source with one line more
pub with_line_longer : (source : SourceText) (kept : Kept) (line : List ℕ) → kept ≡ kept_of line → kept.longer ≡ true → record { text = []; too_long = true } ≡ with_line source line
with_line_longer source kept line e longer = rw (longer_kept _ _ e, longer) refl

pub with_line_whole : (source : SourceText) (kept : Kept) (line : List ℕ) → kept ≡ kept_of line → kept.longer ≡ false → with_bytes source (kept.front ++ codes "\n") ≡ with_line source line
with_line_whole source kept line e short = rw (longer_kept _ _ e, short, front_whole _ _ e short) refl

-- a line of an open source, and a line where none is open; the end of each
pub line_in_source : (s : LabState) (source : SourceText) (line : List ℕ) → s.opened ≡ Some source → answer_to_line s line ≡ answer_in_source s source line
unfolding answer_to_line
line_in_source s source line e = rw e refl

pub line_outside : (s : LabState) (line : List ℕ) → s.opened ≡ None → answer_to_line s line ≡ answer_to_command s line
unfolding answer_to_line
line_outside s line e = rw e refl

pub closed_some : (s : LabState) (source : SourceText) → s.opened ≡ Some source → closed s ≡ answer_to_end s source
unfolding closed
closed_some s source e = rw e refl

pub closed_none : (s : LabState) → s.opened ≡ None → closed s ≡ silent s
unfolding closed
closed_none s e = rw e refl

-- the end of a source with faults
pub assembled_faulty : (lab : LabState) (text : List ℕ) (faults : List Fault) → faults ≢ [] → assembled lab text faults ≡ record { reply = codes "? 9 Faults\n" ++ faults_text faults; after = record lab { faulty = Some text } }
assembled_faulty lab text [] some = absurd (some refl)
assembled_faulty lab text (fault ∷ more) some = refl

-- a point, and any other line
pub point_ends : (s : LabState) (source : SourceText) (line : List ℕ) → bytes_eq line (codes ".") ≡ true → answer_to_end s source ≡ answer_in_source s source line
point_ends s source line point = rw point refl

-- a line outside a source that is a command, and one that is none
pub answer_none : (s : LabState) (kept : Kept) (line : List ℕ) → kept ≡ kept_of line → is_passed_over line ≡ false → kept.longer ≡ false → command_of kept.front ≡ None → answer_to_command s line ≡ refused Form s
answer_none s kept line e other short none = grind (arith, answer_within)

pub answer_some : (s : LabState) (kept : Kept) (line : List ℕ) (command : Command) (text : List ℕ) → kept ≡ kept_of line → is_passed_over line ≡ false → kept.longer ≡ false → command_of kept.front ≡ Some command → text ≡ text_after_word kept.front → answer_to_command s line ≡ answer_to s command text
answer_some s kept line command text e other short some later =
    grind (arith, answer_within)
