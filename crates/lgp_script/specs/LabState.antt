-- Part of the public promise: the script language, the state of a laboratory between two lines of a
-- script, and what an answer is.
use Rattle.std.specs.Prelude.{ℕ, Option, None, List, [], unwrap_or}
use Rattle.std.specs.Option.{option_map_or, option_or}
use Rattle.lgp_word.specs.Drum.{blank_words}
use Rattle.lgp_assembler.specs.Image.{image_of}
use Rattle.lgp_stream.specs.Language.{Answer as AnswerOf}
use Rattle.lgp_table.specs.State.{opening}
use Rattle.lgp_debugger.specs.Debugging.{Debugging}
use Rattle.lgp_script.specs.Limits.{kept_limit}
use Rattle.lgp_script.specs.Refusal.{refusal_text}
use Rattle.lgp_script.specs.SourceText.{SourceText}
use Rattle.lgp_script.specs.declared.refusal.Refusal.{Refusal}

-- the machine with its kept steps and its rules, the last source that assembled, the source that was
-- closed after it and has faults, and the source whose lines are being taken
pub record LabState : Type 0 where
  pub debugger : Debugging
  pub source : Option (List ℕ)
  pub faulty : Option (List ℕ)
  pub opened : Option SourceText

-- the names of the last source that assembled, with their values
unfoldable pub labels_of : Option (List ℕ) → List (List ℕ × ℕ)
labels_of source = option_map_or (λ text. (image_of text).symbols) source []

-- the source at hand: the one that was closed last, if it was not too long
unfoldable pub source_at_hand : LabState → List ℕ
source_at_hand lab = unwrap_or (option_or lab.faulty lab.source) []

-- the last source that assembled; no byte where none has
unfoldable pub assembled_source : Option (List ℕ) → List ℕ
assembled_source source = unwrap_or source []

-- the bytes of the source whose lines are being taken
unfoldable pub opened_text : Option SourceText → List ℕ
opened_text opened = option_map_or (λ source. source.text) opened []

-- what the laboratory replies, and its state after it
abbrev pub Answer : Type 0
Answer = AnswerOf LabState

-- where a script begins
unfoldable pub opening_state : LabState
opening_state = record {
  debugger = record { state = opening blank_words; steps = []; capacity = kept_limit; rules = [] };
  source = None;
  faulty = None;
  opened = None;
}

-- an answer that shows something and changes nothing
abbrev pub answer_showing : List ℕ → LabState → Answer
answer_showing reply lab = record { reply = reply; after = lab }

abbrev pub refused : Refusal → LabState → Answer
refused refusal lab = answer_showing (refusal_text refusal) lab

-- no reply, and nothing changes
abbrev pub silent : LabState → Answer
silent lab = answer_showing [] lab
