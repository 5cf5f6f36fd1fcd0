-- Part of the public promise: what is answered to a program: records, in a form.
use Rattle.std.specs.Prelude.{ℕ, List, ◌++◌, length}
use Rattle.lgp_command.specs.Span.{WordRange}
use Rattle.lgp_data.specs.CostData.{cost_record}
use Rattle.lgp_data.specs.ShowData.{labels_in, printed_in, rules_in, shown_in, tape_record}
use Rattle.lgp_data.specs.SourceData.{source_in}
use Rattle.lgp_data.specs.StateData.{panel_record, state_record}
use Rattle.lgp_data.specs.WhyData.{why_of}
use Rattle.lgp_fields.specs.Printed.{record_in}
use Rattle.lgp_fields.specs.declared.records.RecordForm.{RecordForm}
use Rattle.lgp_help.specs.Tables.{commands_text, faults_text, operations_text}
use Rattle.lgp_machine.specs.Look.{look_of}
use Rattle.lgp_script.specs.LabState.{LabState, assembled_source, labels_of, source_at_hand}
use Rattle.lgp_monitor.specs.declared.data_question.DataQuestion.{DataQuestion}
use Rattle.lgp_monitor.specs.declared.data_question.DataQuestion.TheVariants as data_questions

abbrev pub state_for : RecordForm → LabState → List ℕ
state_for form lab = record_in form (state_record (labels_of lab.source) lab.debugger)

abbrev pub words_for : RecordForm → WordRange → LabState → List ℕ
words_for form range lab =
    shown_in form (labels_of lab.source) lab.debugger range.first range.count

abbrev pub paper_for : RecordForm → ℕ → LabState → List ℕ
paper_for form from lab = printed_in form from lab.debugger.state.printed

-- what a view draws after a step: the state, words, and what was printed after a number of codes
unfoldable pub look_for : RecordForm → WordRange → ℕ → LabState → List ℕ
look_for form range from lab =
    state_for form lab ++ (words_for form range lab ++ paper_for form from lab)

unfoldable pub data_for : RecordForm → DataQuestion → LabState → List ℕ
data_for form data_questions.Panel lab =
    record_in form (panel_record (look_of lab.debugger.state)
    (length lab.debugger.state.core.tape.left))
data_for form data_questions.Commands lab = commands_text form
data_for form data_questions.Operations lab = operations_text form
data_for form data_questions.Faults lab = faults_text form
data_for form data_questions.State lab = state_for form lab
data_for form (data_questions.Show range) lab = words_for form range lab
data_for form (data_questions.Why address) lab =
    record_in form (why_of (labels_of lab.source) lab.debugger address)
data_for form data_questions.Labels lab =
    labels_in form (assembled_source lab.source) (labels_of lab.source)
data_for form data_questions.Rules lab = rules_in form (labels_of lab.source) 0 lab.debugger.rules
data_for form (data_questions.Paper from) lab = paper_for form from lab
data_for form data_questions.Tape lab = record_in form (tape_record lab.debugger.state.core.tape)
data_for form data_questions.Source lab = source_in form (source_at_hand lab)
data_for form (data_questions.Cost address) lab =
    record_in form (cost_record (labels_of lab.source) lab.debugger.state address)
data_for form (data_questions.Look range from) lab = look_for form range from lab
