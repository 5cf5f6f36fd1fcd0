-- Part of the public promise: what a desk is told where it is known what files hold, and by that
-- what is written.
use Rattle.std.specs.Prelude.{◌≡◌, ◌<◌, ℕ, zero, suc, ◌+◌, Bool, true, false}
use Rattle.std.specs.Prelude.{if◌then◌else◌, is_some, nat_lt, option_map, Option, Some, None, drop}
use Rattle.std.specs.Prelude.{List, [], ◌∷◌, ◌++◌, length, map, Result, Ok, Err}
use Rattle.std.specs.Io.KnownBytes.{Appends}
use Rattle.std.specs.List.{list_any}
use Rattle.std.specs.Option.{option_map_or}
use Rattle.std.specs.Str.{bytes_eq, is_utf8}
use Rattle.std.specs.Str.Lines.{lines}
use Rattle.lgp_table.specs.State.{State}
use Rattle.lgp_text.specs.NamedValues.{named}
use Rattle.lgp_desk.specs.Desk.{First, Found, Kept, Onward, Seat, Told, Typed, Wanted}
use Rattle.lgp_desk.specs.Desk.{all_said, said_to, taken_seat, wish_at}
use Rattle.lgp_desk.specs.FileForms.{text_made}
use Rattle.lgp_desk.specs.Files.{Closed, FileCall, Gave, Handed, Opened, file_limit}
use Rattle.lgp_desk.specs.Sessions.{ending, refused_at, written_for}
use Rattle.lgp_desk.specs.declared.files.FileTrouble.{FileTrouble}
use Rattle.lgp_desk.specs.declared.files.FileTrouble.TheVariants as troubles
use Rattle.lgp_desk.specs.declared.request.Work.{Work}
use Rattle.lgp_desk.specs.declared.request.Work.TheVariants as works
use Rattle.lgp_desk.specs.declared.writing.Manner.{Manner}
use Rattle.lgp_desk.specs.declared.wish.Wish.{Wish}
use Rattle.lgp_desk.specs.declared.wish.Wish.TheVariants as wishes

-- ---- files that are known

-- what they hold, by their names, of which the first counts: there are no others; under which names
-- a text is kept; and what the open one has left
pub record Drawer : Type 0 where
  pub files : List (List ℕ × List ℕ)
  pub writable : List (List ℕ)
  pub left : Option (List ℕ)

abbrev pub takes : Drawer → List ℕ → Bool
takes drawer name = list_any (bytes_eq name) drawer.writable

-- a text is kept under a name
abbrev pub with_text : Drawer → List ℕ → List ℕ → Drawer
with_text drawer name text = record drawer { files = (name, text) ∷ drawer.files }

-- what they answer, and how they are then: a file gives its bytes in any portions to its end, and
-- no read of it fails; there is nothing to read where no file is open
abbrev pub drawer_answer : Drawer → FileCall → Drawer → Type 0
drawer_answer before (Opened name is) after =
    (is ≡ is_some (named before.files name))
    × (after ≡ record before { left = named before.files name })
drawer_answer before (Gave room (Some portion)) after =
    (rest : List ℕ) × (before.left ≡ Some (portion ++ rest))
    × (0 < room → portion ≡ [] → rest ≡ [])
    × (after ≡ record before { left = Some rest })
drawer_answer before (Gave room None) after = (before.left ≡ None) × (after ≡ before)
drawer_answer before Closed after = after ≡ record before { left = None }
drawer_answer before (Handed name text kept) after =
    (kept ≡ takes before name) × (after ≡ (if kept then with_text before name text else before))

-- ---- what a desk is told

-- what is found in the file of a name, and whether a text is kept under it
abbrev pub held_in : Option (List ℕ) → Result (List ℕ) FileTrouble
held_in (Some text) =
    if nat_lt file_limit (length text) then Err troubles.TooLong else Ok text
held_in None = Err troubles.NotOpened

abbrev pub found_in : Drawer → List ℕ → Result (List ℕ) FileTrouble
found_in drawer name =
    if is_utf8 name then held_in (named drawer.files name) else Err troubles.NotNamed

abbrev pub kept_in : Drawer → List ℕ → Bool
kept_in drawer name = if is_utf8 name then takes drawer name else false

-- the files after that: with what was kept
abbrev pub with_kept : Drawer → Work → List ℕ → State → Bool → Drawer
with_kept drawer (works.Keep made) name s true = with_text drawer name (text_made made s)
with_kept drawer work name s kept = drawer

abbrev pub drawer_after : Drawer → Seat → Told → Drawer
drawer_after drawer seat (Kept kept) =
    option_map_or
    (λ wanted. with_kept drawer wanted.work wanted.name seat.recorded.state.debugger.state kept)
    seat.wanted drawer
drawer_after drawer seat told = drawer

-- what is told next: where a line is wished for, the next of the names and lines that come
abbrev pub next_for : Wish → Drawer → Option Wanted → List Told → Option Told
next_for wishes.Line drawer wanted [] = None
next_for wishes.Line drawer wanted (told ∷ more) = Some told
next_for wishes.Onward drawer wanted coming = Some Onward
next_for wishes.Read drawer wanted coming =
    option_map (λ it. Found (found_in drawer it.name)) wanted
next_for (wishes.Keep made) drawer wanted coming =
    option_map (λ it. Kept (kept_in drawer it.name)) wanted
next_for wishes.Nothing drawer wanted coming = None

abbrev pub coming_after : Told → List Told → List Told
coming_after (Typed line) coming = drop 1 coming
coming_after (First name) coming = drop 1 coming
coming_after told coming = coming

-- all that is told, or as much as a number of steps allows
abbrev pub told_for : ℕ → Drawer → Seat → List Told → List Told
told_for zero drawer seat coming = []
told_for (suc steps) drawer seat coming =
    option_map_or
    (λ told. told ∷ told_for steps (drawer_after drawer seat told) (said_to seat told).seat
    (coming_after told coming))
    (next_for (wish_at seat) drawer seat.wanted coming) []

-- the names, and then the lines
abbrev pub coming_of : List (List ℕ) → List (List ℕ) → List Told
coming_of names lines = map First names ++ map Typed lines

-- of these, what a desk was told
abbrev pub outer_in : List Told → List Told
outer_in [] = []
outer_in (Typed line ∷ more) = Typed line ∷ outer_in more
outer_in (First name ∷ more) = First name ∷ outer_in more
outer_in (told ∷ more) = outer_in more

-- ---- a session

-- what a desk is told in the first n steps of a session
abbrev pub session_told : Drawer → Manner → List (List ℕ) → List ℕ → ℕ → List Told
session_told drawer manner names text steps =
    told_for steps drawer (taken_seat manner) (coming_of names (lines text))

-- whether it ended at the lines' end, and not by `quit`
abbrev pub is_line : Wish → Bool
is_line wishes.Line = true
is_line wish = false

-- what is written in it, and whether a reply was a refusal
abbrev pub session_text : Drawer → Manner → List (List ℕ) → List ℕ → ℕ → List ℕ
session_text drawer manner names text steps =
    let told = session_told drawer manner names text steps in
    let seat = (all_said (taken_seat manner) told).seat in
    written_for (taken_seat manner) told ++ ending (is_line (wish_at seat)) seat

abbrev pub session_refused : Drawer → Manner → List (List ℕ) → List ℕ → ℕ → Bool
session_refused drawer manner names text steps =
    let told = session_told drawer manner names text steps in
    let seat = (all_said (taken_seat manner) told).seat in
    refused_at (is_line (wish_at seat)) seat

-- exactly this was written: with any more steps it is the same
pub record IsSessionText (drawer : Drawer) (manner : Manner) (names : List (List ℕ)) (text : List ℕ)
    (refused : Bool) (w₀ w : Option (List ℕ)) : Type 0 where
  pub steps : ℕ
  pub enough : (more : ℕ) → session_told drawer manner names text (steps + more)
      ≡ session_told drawer manner names text steps
  pub written : Appends w₀ w (session_text drawer manner names text steps)
  pub refused_is : refused ≡ session_refused drawer manner names text steps
