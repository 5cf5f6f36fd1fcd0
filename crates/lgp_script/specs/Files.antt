-- Part of the public promise: what is written for a whole file, of a source or of a script.
use Rattle.std.specs.Prelude.{ℕ, ◌++◌, if◌then◌else◌, Option, Some, None, Result, List, [], ◌∷◌}
use Rattle.std.specs.Prelude.{◌≡◌, codes, Bool, IfErr, IfOk, IfSome, OnOk, is_some, option_map}
use Rattle.std.specs.Result.{result_ok}
use Rattle.std.specs.Io.KnownBytes.{Appends, IsAtEnd}
use Rattle.lgp_stream.specs.Language.{HasCause, StandsOf}
use Rattle.lgp_stream.specs.declared.stream.StreamFault.{StreamFault}
use Rattle.lgp_word.specs.Drum.{blank_words}
use Rattle.lgp_flexo.specs.TapeText.{written_tape}
use Rattle.lgp_table.specs.After.{after}
use Rattle.lgp_table.specs.State.{State, opening}
use Rattle.lgp_loader.specs.BlockLoading.{longest_load}
use Rattle.lgp_loader.specs.Loading.{TapeLoad, loaded, loading_stopped}
use Rattle.lgp_assembler.specs.Image.{faults_of, image_of}
use Rattle.lgp_assembler.specs.declared.refusal.Fault.{Fault}
use Rattle.lgp_listing.specs.Listing.{listing_of}
use Rattle.lgp_debugger.specs.Run.{run_of}
use Rattle.lgp_script.specs.MachineCommands.{panel_text}
use Rattle.lgp_script.specs.TapeCommands.{printed_text}
use Rattle.lgp_script.specs.Refusal.{refusal_text}
use Rattle.lgp_script.specs.SourceCommands.{faults_text}
use Rattle.lgp_script.specs.SourceText.{SourceText, source_of}
use Rattle.lgp_script.specs.declared.refusal.Refusal.TheVariants.{ClockEnd, TooLong}

-- the line in front of a script's replies, which names its file
unfoldable pub heading : List ℕ → List ℕ
heading name = codes "file " ++ (name ++ codes "\n")

-- what is written for a source, and the status: 0 where all is well, 1 where the source has a fault
-- or is too long
pub record FileAnswer : Type 0 where
  pub text : List ℕ
  pub status : ℕ

-- A file's text before it is read and after, whether reading or writing has failed, what is
-- written before and after, and the answer: the status, or why not all is written.
pub record IsFileAnswer (answer : List ℕ → FileAnswer) (source left : Option (List ℕ))
    (unread unwritten : Bool) (before after : Option (List ℕ)) (result : Result ℕ StreamFault)
    : Type 0
  where
    -- all is read, and all is written
    pub read : OnOk result (IsAtEnd left)
    pub text : OnOk result (IfSome source (λ bytes. Appends before after (answer bytes).text))
    pub status : IfOk result (λ status. IfSome source (λ bytes. status ≡ (answer bytes).status))
    -- whose failure it was, and what of the text is written
    pub cause : IfErr result (λ fault. HasCause fault unread unwritten)
    pub stands : IfErr result (λ fault. IfSome source (λ bytes.
        StandsOf (answer bytes).text fault before after))

-- a source is answered by its faults, or else as a command wants it
abbrev pub faulty_or : (List ℕ → FileAnswer) → List ℕ → List Fault → FileAnswer
faulty_or answer source [] = answer source
faulty_or answer source (fault ∷ more) = record { text = faults_text (fault ∷ more); status = 1 }

abbrev pub answer_of : (List ℕ → FileAnswer) → SourceText → FileAnswer
answer_of answer source =
    if source.too_long then record { text = refusal_text TooLong; status = 1 }
    else faulty_or answer source.text (faults_of source.text)

-- asm: the listing
abbrev pub listed : List ℕ → FileAnswer
listed source = record { text = listing_of source; status = 0 }

unfoldable pub asm_answer : List ℕ → FileAnswer
asm_answer source = answer_of listed (source_of source)

-- how a source without faults is loaded, in the longest blocks
abbrev pub load_of_source : List ℕ → TapeLoad
load_of_source source = longest_load (image_of source)

-- tape: the text of the tape, and a line feed
abbrev pub taped : List ℕ → FileAnswer
taped source = record {
  text = written_tape (load_of_source source).codes ++ codes "\n";
  status = 0;
}

unfoldable pub tape_answer : List ℕ → FileAnswer
tape_answer source = answer_of taped (source_of source)

-- run: the source is loaded into a new machine, and a run that no rule stops follows, of at most a
-- given number of orders; then what is printed is shown, and the panel. Where the clock's end is
-- met, that alone is reported
abbrev pub answer_left : Option State → FileAnswer
answer_left None = record { text = refusal_text ClockEnd; status = 1 }
answer_left (Some s) = record { text = printed_text s.printed ++ panel_text s; status = 0 }

abbrev pub loaded_new : List ℕ → State
loaded_new source = loaded (opening blank_words) (load_of_source source)

abbrev pub run_to : ℕ → List ℕ → FileAnswer
run_to limit source =
    let begun = loaded_new source in
    answer_left
    (if is_some (loading_stopped (opening blank_words) (load_of_source source)) then None
    else option_map (λ ran. after begun ran.orders) (result_ok (run_of [] limit begun)))

unfoldable pub run_answer : ℕ → List ℕ → FileAnswer
run_answer limit source = answer_of (run_to limit) (source_of source)
