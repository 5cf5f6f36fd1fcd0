-- Part of the public promise: how the monitor answers a text that no line has room for, and where
-- that leaves it. A dump is restored, by lines of a script that put its words on the drum; a tape is
-- mounted.
use Rattle.std.specs.Prelude.{ℕ, ◌+◌, ◌==◌, ◌&&◌, ◌||◌, Bool, if◌then◌else◌, is_none, is_some, not, List, [], ◌∷◌}
use Rattle.std.specs.Prelude.{◌++◌, codes, decimal, fold, length, map, slice_set}
use Rattle.std.specs.Option.{option_map_or}
use Rattle.bstr.specs.Text.{lines_of}
use Rattle.lgp_word.specs.Drum.{blank_words}
use Rattle.lgp_table.specs.Console.{is_at_rest}
use Rattle.lgp_stream.specs.Language.{Answer}
use Rattle.lgp_stream.specs.Transcript.{Recorded, with_line, with_state}
use Rattle.lgp_command.specs.CommandText.{command_text}
use Rattle.lgp_command.specs.declared.command.Command.TheVariants as commands
use Rattle.lgp_listing.specs.Dump.{cell_in, first_fault}
use Rattle.lgp_listing.specs.declared.reading.DumpFault.{DumpFault}
use Rattle.lgp_listing.specs.declared.reading.DumpFault.TheVariants as faults
use Rattle.lgp_script.specs.LabState.{LabState}
use Rattle.lgp_script.specs.TapeCommands.{replied_to_tape_text}
use Rattle.lgp_script.specs.declared.refusal.Refusal.TheVariants.{Moving}
use Rattle.lgp_monitor.specs.Monitor.{answered_with, panel_at}
use Rattle.lgp_monitor.specs.Reasons.{explained_text, is_refusal, refused_text}

-- ---- restore

-- the words of a dump's drum: those of its lines at their addresses, and zeros
unfoldable pub dumped_words : List ℕ → List ℕ
dumped_words dump =
    fold (λ words line. option_map_or (λ cell. slice_set words cell.0 cell.1) (cell_in line) words)
    blank_words (lines_of dump)

-- the addresses, from one on, that have other words than before, each with its new word
unfoldable pub changed_cells : ℕ → List ℕ → List ℕ → List (ℕ × ℕ)
changed_cells address (old ∷ before) (new ∷ after) =
    (if old == new then [] else (address, new) ∷ []) ++ changed_cells (address + 1) before after
changed_cells address before after = []

-- the line of a script that puts a word
abbrev pub put_cell : ℕ × ℕ → List ℕ
put_cell cell = command_text (commands.Put cell.0 cell.1) []

-- why a text is no dump
unfoldable pub dump_fault_text : DumpFault → List ℕ
dump_fault_text (faults.Form line) =
    codes "? 1 Form: line " ++ (decimal line ++ codes " is not a line of a dump\n")
dump_fault_text (faults.Order line) =
    codes "? 1 Form: the address of line "
    ++ (decimal line ++ codes " is not above that of the line before it\n")
dump_fault_text faults.Memory = []

module _ (recorded : Recorded LabState) where
  -- the words that a dump changes
  abbrev pub cells_changed : List ℕ → List (ℕ × ℕ)
  cells_changed dump =
      changed_cells 0 recorded.state.debugger.state.core.words (dumped_words dump)

  abbrev pub rests_at : Bool
  rests_at = is_at_rest (panel_at recorded.state).status

  unfoldable pub restore_reply : List ℕ → List ℕ
  restore_reply dump =
      option_map_or dump_fault_text (first_fault dump) (if rests_at
      then codes "restored " ++ (decimal (length (cells_changed dump)) ++ codes "\n")
      else refused_text Moving)

  -- the lines of a script that it stands for
  unfoldable pub restore_lines : List ℕ → List (List ℕ)
  restore_lines dump =
      if is_none (first_fault dump) && rests_at then map put_cell (cells_changed dump) else []

  -- whether it is refused
  unfoldable pub refuses_dump : List ℕ → Bool
  refuses_dump dump = is_some (first_fault dump) || not rests_at

  abbrev pub answer_to_dump : List ℕ → Answer (Recorded LabState)
  answer_to_dump dump = answered_with recorded (restore_reply dump) (restore_lines dump)

  -- ---- a tape for whose text no line of a script has room: no line says which tape it is, so its
  -- name is in the transcript

  unfoldable pub tape_reply : List ℕ → List ℕ
  tape_reply text =
      let replied = replied_to_tape_text recorded.state text in
      explained_text replied.after replied.reply

  unfoldable pub refuses_tape : List ℕ → Bool
  refuses_tape text = is_refusal (replied_to_tape_text recorded.state text).reply

  unfoldable pub after_tape : List ℕ → List ℕ → Recorded LabState
  after_tape name text =
      with_state (with_line recorded (codes "tape " ++ name))
      (replied_to_tape_text recorded.state text).after

  abbrev pub answer_to_tape : List ℕ → List ℕ → Answer (Recorded LabState)
  answer_to_tape name text = record { reply = tape_reply text; after = after_tape name text }
