-- What a line stands for is the same in both forms of a reply.
use Rattle.std.proofs.Common.{◌≡◌, refl}
use Rattle.lgp_fields.specs.declared.records.RecordForm.{RecordForm}
use Rattle.lgp_fields.specs.declared.records.RecordForm.TheVariants.{Lines, Objects}
use Rattle.lgp_stream.specs.KeptLine.{Kept}
use Rattle.lgp_stream.specs.Transcript.{Recorded}
use Rattle.lgp_script.specs.LabState.{LabState}
use Rattle.lgp_monitor.specs.Entry.{in_form}
use Rattle.lgp_monitor.specs.Monitor.{meaning_of}
use Rattle.lgp_monitor.specs.declared.entry.Entry.{Entry}
use Rattle.lgp_monitor.specs.declared.entry.Entry.TheVariants as entry

pub same_meaning : (recorded : Recorded LabState) (form : RecordForm) (asked : Entry) (kept : Kept)
    → meaning_of recorded (in_form form asked) kept ≡ meaning_of recorded asked kept
same_meaning recorded Lines asked kept = refl
same_meaning recorded Objects (entry.Asked question) kept = refl
same_meaning recorded Objects (entry.Reported telling limit) kept = refl
same_meaning recorded Objects entry.Itself kept = refl
same_meaning recorded Objects (entry.Misformed part wrong) kept = refl
same_meaning recorded Objects (entry.Script command) kept = refl
same_meaning recorded Objects (entry.Go address) kept = refl
same_meaning recorded Objects (entry.Operate limit) kept = refl
same_meaning recorded Objects (entry.Until until limit) kept = refl
same_meaning recorded Objects entry.Transcript kept = refl
same_meaning recorded Objects entry.New kept = refl
same_meaning recorded Objects (entry.To way form) kept = refl
same_meaning recorded Objects entry.Help kept = refl
same_meaning recorded Objects (entry.HelpOf verb) kept = refl
