-- Part of the public promise: what the program does for a task: which file it reads, what it writes
-- where, and its status.
use Rattle.std.specs.Prelude.{◌≡◌, ◌⊎◌, ℕ, ◌^◌, ◌<◌, ◌≤◌, ◌++◌, max, min, Bool, true, false}
use Rattle.std.specs.Prelude.{Option, Some, List, [], ◌∷◌, codes, IfSome, Result, Ok, Err}
use Rattle.std.specs.List.{concat}
use Rattle.std.specs.Io.KnownBytes.{Appends}
use Rattle.std.specs.String.{string_bytes}
use Rattle.lgp_task.specs.CommandLine.{command_line}
use Rattle.lgp_task.specs.Task.{AskForTask, IsFaultOn, task_for}
use Rattle.lgp_task.specs.declared.task.Task.{Task}
use Rattle.lgp_task.specs.declared.task.Task.TheVariants.{Stdin, Asm, Tape, Run, Script, Batch}
use Rattle.lgp_task.specs.declared.task.TaskFault.{TaskFault}
use Rattle.lgp_task.specs.declared.task.TaskFault.TheVariants as faults
use Rattle.lgp_script.specs.Files.{FileAnswer, asm_answer, heading, run_answer, tape_answer}
use Rattle.lgp_stream.specs.Language.{HasCause, StandsOf, StandsWritten}
use Rattle.lgp_script.specs.Script.{script_faults, script_language, script_replies}
use Rattle.lgp_script.specs.LabState.{opening_state}
use Rattle.lgp_stream.specs.declared.stream.StreamFault.{StreamFault}
use Rattle.lgp_stream.specs.declared.stream.StreamFault.TheVariants.{Memory}
use Rattle.lgp_lab.specs.declared.tasks.FileFault.{FileFault}
use Rattle.lgp_lab.specs.declared.tasks.FileFault.TheVariants.{NotOpened, Broken}
use Rattle.lgp_lab.specs.declared.tasks.WordFault.{WordFault}
use Rattle.lgp_lab.specs.declared.tasks.WordFault.TheVariants as words
use Rattle.lgp_lab.specs.declared.tasks.Job.{Job}
use Rattle.lgp_lab.specs.declared.tasks.Job.TheVariants as jobs

-- how often a file or standard input is read at most
abbrev pub read_limit : ℕ
read_limit = 2 ^ 32

-- the status of a text that was answered to its end, by how many of its replies begin with a
-- question mark
abbrev pub answered_status : ℕ → ℕ
answered_status count = min count 1

-- the status of a read or a write that failed, and of a file that cannot be opened; that for want
-- of memory; that of mistaken words
abbrev pub failed_status : ℕ
failed_status = 2

abbrev pub memory_status : ℕ
memory_status = 3

abbrev pub usage_status : ℕ
usage_status = 64

abbrev pub broken_status : StreamFault → ℕ
broken_status Memory = memory_status
broken_status _ = failed_status

-- the status for what became of a file
abbrev pub status_for : Result ℕ FileFault → ℕ
status_for (Ok count) = answered_status count
status_for (Err NotOpened) = failed_status
status_for (Err (Broken fault)) = broken_status fault

-- whether a file was opened
abbrev pub was_opened : Result ℕ FileFault → Bool
was_opened (Err NotOpened) = false
was_opened _ = true

-- work on a text: what is written for it, with its status, of a script how many replies begin with
-- a question mark; and what is written where a fault breaks the work off
pub record Work : Type 1 where
  pub answer : List ℕ → FileAnswer
  pub Stands : List ℕ → StreamFault → Option (List ℕ) → Option (List ℕ) → Type 0

-- work on a source
abbrev pub source_work : (List ℕ → FileAnswer) → Work
source_work answer =
    record { answer = answer; Stands = λ text fault. StandsOf (answer text).text fault }

-- a script, after what is in front of it; how much was read is not reported
abbrev pub script_work : List (List ℕ) → Work
script_work front = record {
  answer = λ text. record {
    text = concat (front ++ script_replies text);
    status = script_faults text;
  };
  Stands = λ text fault w₀ w. (left : Option (List ℕ))
      × StandsWritten front (script_language) opening_state fault text left w₀ w;
}

abbrev pub work_for : Job → Work
work_for jobs.Listing = source_work asm_answer
work_for jobs.Taping = source_work tape_answer
work_for (jobs.Running limit) = source_work (run_answer limit)
work_for jobs.Answering = script_work []

-- a script of several, with the line that names it
abbrev pub part_work : List ℕ → Work
part_work name = script_work (heading name ∷ [])

-- whether reads and writes have failed
pub record Failures : Type 0 where
  pub read : Bool
  pub write : Bool

-- what became of the work on a file, of which nothing may be known: its text was written, or the
-- file was not opened and nothing was written, or a fault broke the work off, and then a read or a
-- write has failed, as the fault says, or memory was refused
abbrev pub HasDone : Work → Option (List ℕ) → Failures → Result ℕ FileFault → Option (List ℕ)
    → Option (List ℕ) → Type 0
HasDone work known failures (Ok count) w₀ w = IfSome known (λ text.
    Appends w₀ w (work.answer text).text × (count ≡ (work.answer text).status))
HasDone work known failures (Err NotOpened) w₀ w = w ≡ w₀
HasDone work known failures (Err (Broken fault)) w₀ w =
    HasCause fault failures.read failures.write
    × IfSome known (λ text. work.Stands text fault w₀ w)

-- a file is opened exactly as is known of it
abbrev pub IsOpenedAs : Option Bool → Result ℕ FileFault → Type 0
IsOpenedAs known outcome = IfSome known (λ opens. was_opened outcome ≡ opens)

-- work on a file with the status for it; of the file may be known whether it can be opened, and
-- which bytes it has
abbrev pub IsWorked : Work → Option Bool → Option (List ℕ) → Failures → ℕ → Option (List ℕ)
    → Option (List ℕ) → Type 0
IsWorked work opens known failures status w₀ w =
    (outcome : Result ℕ FileFault) × IsOpenedAs opens outcome
    × HasDone work known failures outcome w₀ w × (status ≡ status_for outcome)

-- the scripts of a batch, one after another: each is answered after the line that names it; after
-- a status below 2 the next one follows, and 2 or 3 ends the batch. The status is the greatest, of
-- `worst` before these scripts and of theirs
unfoldable pub IsBatch : (List ℕ → Option Bool) → (List ℕ → Option (List ℕ)) → Failures → ℕ
    → List (List ℕ) → ℕ → Option (List ℕ) → Option (List ℕ) → Type 0
IsBatch opens contents failures worst [] status w₀ w = (status ≡ worst) × (w ≡ w₀)
IsBatch opens contents failures worst (name ∷ names) status w₀ w =
    (now : ℕ) × (w₁ : Option (List ℕ))
    × IsWorked (part_work name) (opens name) (contents name) failures now w₀ w₁
    × (((now < 2) × IsBatch opens contents failures (max worst now) names status w₁ w)
    ⊎ ((2 ≤ now) × (status ≡ max worst now) × (w ≡ w₁)))

-- the same with the reads of files in place of those of the input
abbrev pub of_files : Bool → Failures → Failures
of_files unread failures = record failures { read = unread }

-- what is written for a task, and the status of the program, by whether a read of a file has failed,
-- and of the input, and a write
abbrev pub IsPerformed : {A : Type 0} → (List ℕ → Option Bool) → (List ℕ → Option (List ℕ))
    → Task A → Option (List ℕ) → Bool → Failures → ℕ → Option (List ℕ) → Option (List ℕ) → Type 0
IsPerformed opens contents Stdin input unread failures =
    IsWorked (script_work []) (Some true) input failures
IsPerformed opens contents (Asm name) input unread failures =
    IsWorked (source_work asm_answer) (opens name) (contents name) (of_files unread failures)
IsPerformed opens contents (Tape name) input unread failures =
    IsWorked (source_work tape_answer) (opens name) (contents name) (of_files unread failures)
IsPerformed opens contents (Run name limit) input unread failures =
    IsWorked (source_work (run_answer limit)) (opens name) (contents name)
    (of_files unread failures)
IsPerformed opens contents (Script name) input unread failures =
    IsWorked (script_work []) (opens name) (contents name) (of_files unread failures)
IsPerformed opens contents (Batch names) input unread failures =
    IsBatch opens contents (of_files unread failures) 0 names

-- a text reported: whole, with the status that goes with it; or in part, since a write has failed,
-- with the status of that
abbrev pub IsReported : ℕ → List ℕ → Bool → ℕ → Option (List ℕ) → Option (List ℕ) → Type 0
IsReported wanted text failed status w₀ w =
    ((status ≡ wanted) × Appends w₀ w text)
    ⊎ ((status ≡ failed_status) × (failed ≡ true)
    × ((fault : StreamFault) × StandsOf text fault w₀ w))

-- where the words hold no task: help goes to the output, with status 0; how they are mistaken goes
-- to the messages, with status 64; and nothing goes to the other one. Of each is said whether a
-- write to it has failed
abbrev pub IsRefused : {A : Type 0} → TaskFault A → Bool → Bool → ℕ → Option (List ℕ)
    → Option (List ℕ) → Option (List ℕ) → Option (List ℕ) → Type 0
IsRefused (faults.Usage text) w_failed m_failed status w₀ w m₀ m =
    IsReported usage_status (string_bytes text) m_failed status m₀ m × (w ≡ w₀)
IsRefused (faults.Help text) w_failed m_failed status w₀ w m₀ m =
    IsReported 0 (string_bytes text) w_failed status w₀ w × (m ≡ m₀)
IsRefused faults.Memory w_failed m_failed status w₀ w m₀ m =
    (status ≡ memory_status) × ((w ≡ w₀) × (m ≡ m₀))

-- what is reported of words on the command line that cannot be read as text
abbrev pub unread_text : List ℕ
unread_text = codes "error: the words of the command line are not UTF-8 text\n"

-- what is reported of words on the command line that cannot be read at all, by why: nothing for
-- want of memory
abbrev pub IsUnread : WordFault → Bool → ℕ → Option (List ℕ) → Option (List ℕ) → Option (List ℕ)
    → Option (List ℕ) → Type 0
IsUnread words.NotText m_failed status w₀ w m₀ m =
    IsReported usage_status unread_text m_failed status m₀ m × (w ≡ w₀)
IsUnread words.Memory m_failed status w₀ w m₀ m =
    (status ≡ memory_status) × ((w ≡ w₀) × (m ≡ m₀))

-- what the program does for the words of the command line: where the command line takes them, the
-- task that they hold, without a message; or they are refused
abbrev pub IsObeyed : (A : Type 0) → (List ℕ → Option Bool) → (List ℕ → Option (List ℕ))
    → List (List ℕ) → Option (List ℕ) → Bool → Failures → Bool → ℕ → Option (List ℕ)
    → Option (List ℕ) → Option (List ℕ) → Option (List ℕ) → Type 0
IsObeyed A opens contents typed input unread failures m_failed status w₀ w m₀ m =
    (AskForTask typed
    × IsPerformed {A = A} opens contents (task_for typed) input unread failures status w₀ w
    × (m ≡ m₀))
    ⊎ ((fault : TaskFault A) × IsFaultOn command_line typed fault
    × IsRefused fault failures.write m_failed status w₀ w m₀ m)
