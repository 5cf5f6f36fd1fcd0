-- What is kept of a tape or a drum is read back.
use Rattle.std.proofs.Common.{◌≡◌, ℕ, ◌≤◌, List, [], ◌∷◌, length, Option, Ok, Err, sym, ap, ◌∙◌, arith}
use Rattle.std.specs.List.{All}
use Rattle.std.specs.Option.{option_map_or}
use Rattle.std.proofs.lemmas.List.Elements.{All-head, All-tail}
use Rattle.lgp_flexo.specs.Archive.{codes_of_archive}
use Rattle.lgp_flexo.specs.Code.{IsCode}
use Rattle.lgp_flexo.specs.TapeText.{codes_of_text, tape_limit, written_code, written_tape}
use Rattle.lgp_flexo.proofs.Writing.{ReadsBack, ReadsBack-append, ReadsBack-code, ReadsBack-whole}
use Rattle.lgp_listing.specs.Dump.{IsDrum, dump_of}
use Rattle.lgp_exchange.specs.ArchiveText.{archived_tape}
use Rattle.lgp_exchange.specs.Deposits.{deposits_of}
use Rattle.lgp_exchange.proofs.Archives.{archive_reads_back}
use Rattle.lgp_exchange.proofs.Bytes.{codes_none}
use Rattle.lgp_exchange.proofs.Drums.{deposits_read_back}
use Rattle.lgp_desk.specs.FileForms.{coded, dump_in, tape_of, tape_text, within_limit}
use Rattle.lgp_desk.specs.declared.files.FileTrouble.TheVariants as troubles
use Rattle.lgp_desk.specs.declared.request.DrumForm.TheVariants as drums
use Rattle.lgp_desk.specs.declared.request.TapeForm.{TapeForm}
use Rattle.lgp_desk.specs.declared.request.TapeForm.TheVariants as tapes
use Rattle.lgp_desk.proofs.FormLemmas.{read-short, short-kept, simh-dump}

text-read : (tape : List ℕ) → All IsCode tape → ReadsBack (written_tape tape) tape
text-read [] all = grind arith
text-read (code ∷ tape) all =
    let is_code : IsCode code = All-head IsCode code tape all in
    ReadsBack-append (written_code code) (written_tape tape) (code ∷ []) tape (ReadsBack-code code (omega (arith, is_code))) (text-read tape (All-tail IsCode code tape all))

pub tapes_are_read : (form : TapeForm) (tape : List ℕ) → All IsCode tape → length tape ≤ tape_limit → tape_of form (tape_text form tape) ≡ Ok tape
unfolding coded
tapes_are_read tapes.Text tape all short =
    read-short (codes_of_text (written_tape tape)) tape (written_tape tape) (ReadsBack-whole (written_tape tape) tape (text-read tape all)) short
tapes_are_read tapes.Archive tape all short =
    read-short (codes_of_archive (archived_tape tape)) tape (archived_tape tape) (archive_reads_back tape all) short
tapes_are_read tapes.Bytes tape all short =
    ap (λ (it : Option ℕ). option_map_or (λ place. Err (troubles.NoCode place)) it (within_limit tape)) (codes_none tape all) ∙ short-kept tape short

pub drums_are_read : (words : List ℕ) → IsDrum words → dump_in drums.Simh (deposits_of words) ≡ Ok (dump_of words)
drums_are_read words is_drum =
    let read = deposits_read_back words is_drum in
    sym (simh-dump (deposits_of words) read.no_fault) ∙ ap (λ (it : List ℕ). Ok (dump_of it)) read.words_are
