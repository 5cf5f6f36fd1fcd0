-- What a desk is told is determined by files that are known, and by the names and lines that come.
use Rattle.std.proofs.Common.{◌≡◌, ℕ, ◌+◌, ◌<◌, ◌≤◌, Bool, true, false, cond, Option, Some, None, IfSome, is_some, inl, inr, Result, Ok, Err, List, [], ◌∷◌, ◌++◌, drop, length, length-append, nat_lt, refl, sym, ap, subst, ◌∙◌, append_assoc, arith}
use Rattle.std.specs.Option.{option_map_or}
use Rattle.std.specs.Str.{IsUtf8, is_utf8}
use Rattle.std.proofs.lemmas.Bool.Decides.{nat_tests}
use Rattle.std.proofs.lemmas.List.{append-nil}
use Rattle.std.proofs.lemmas.Str.{IsUtf8-from_is_utf8, is_utf8-from_IsUtf8}
use Rattle.lgp_text.specs.NamedValues.{named}
use Rattle.lgp_desk.specs.Desk.{First, Found, Kept, Onward, Seat, Told, Typed, Wanted, said_to, wish_at}
use Rattle.lgp_desk.specs.FileForms.{text_made}
use Rattle.lgp_desk.specs.Files.{AreReads, Closed, FileCall, Gave, Handed, HaveAnswered, IsFound, IsGiven, IsHanded, Opened, file_limit}
use Rattle.lgp_desk.specs.Sessions.{AreFor, AreWished, IsFirstOf, IsKeptFor, is_wished}
use Rattle.lgp_desk.specs.Drawers.{Drawer, coming_after, drawer_after, drawer_answer, found_in, held_in, kept_in, next_for, outer_in, takes, told_for, with_kept, with_text}
use Rattle.lgp_desk.specs.declared.files.FileTrouble.{FileTrouble}
use Rattle.lgp_desk.specs.declared.files.FileTrouble.TheVariants as troubles
use Rattle.lgp_desk.specs.declared.request.Made.{Made}
use Rattle.lgp_desk.specs.declared.request.Work.{Work}
use Rattle.lgp_desk.specs.declared.request.Work.TheVariants as works
use Rattle.lgp_desk.specs.declared.wish.Wish.{Wish}
use Rattle.lgp_desk.specs.declared.wish.Wish.TheVariants as wishes
use Rattle.lgp_desk.proofs.GrantLemmas.{keep-wanted, read-wanted}

abbrev Have : Drawer → List FileCall → Drawer → Type 0
Have d calls e = HaveAnswered drawer_answer d calls e

pub split : (d e : Drawer) (xs ys : List FileCall) → Have d (xs ++ ys) e → (mid : Drawer) × Have d xs mid × Have mid ys e
split d e [] ys have = (d, refl, have)
split d e (x ∷ xs) ys have =
    let rest = split have.0 e xs ys have.2 in
    (rest.0, (have.0, have.1, rest.1), rest.2)

some-same : {T : Type 0} (at : Option T) (a b : T) → at ≡ Some a → at ≡ Some b → a ≡ b
some-same at a b one two = cc

some-none : {T : Type 0} (at : Option T) (a : T) → at ≡ Some a → at ≡ None → ⊥
some-none at a one two = absurd (cc)

-- ---- a file that is read

reads-left : (d e : Drawer) (calls : List FileCall) (text all : List ℕ) → AreReads calls text → Have d calls e → d.left ≡ Some all → (left : List ℕ) × (all ≡ text ++ left) × (e ≡ record d { left = Some left })
reads-left d e [] text all none same begins = (all, ap (λ (at : List ℕ). at ++ all) (sym none), same ∙ ap (λ (at : Option (List ℕ)). record d { left = at }) begins)
reads-left d e (Gave room (Some portion) ∷ more) text all reads have begins =
    let mid : Drawer = have.0 in
    let left : List ℕ = have.1.0 in
    let mid_is : mid ≡ record d { left = Some left } = have.1.3 in
    let whole : all ≡ portion ++ left = some-same d.left all (portion ++ left) begins have.1.1 in
    let rest = reads-left mid e more reads.1 left reads.3 have.2 (ap (λ (at : Drawer). at.left) mid_is) in (
      rest.0,
      whole ∙ (ap (λ (at : List ℕ). portion ++ at) rest.1 ∙ (sym (append_assoc portion reads.1 rest.0) ∙ ap (λ (at : List ℕ). at ++ rest.0) (sym reads.2))),
      rest.2 ∙ ap (λ (at : Drawer). record at { left = Some rest.0 }) mid_is,
    )
reads-left d e (Gave room None ∷ more) text all reads have begins = absurd reads
reads-left d e (Opened name is ∷ more) text all reads have begins = absurd reads
reads-left d e (Closed ∷ more) text all reads have begins = absurd reads
reads-left d e (Handed name kept is ∷ more) text all reads have begins = absurd reads

some-of : {T : Type 0} (at : Option T) → true ≡ is_some at → (value : T) × (at ≡ Some value)
some-of None is = absurd (cc)
some-of (Some value) is = (value, refl)

none-of : {T : Type 0} (at : Option T) → false ≡ is_some at → at ≡ None
none-of None is = refl
none-of (Some value) is = absurd (cc)

not-utf8 : (name : List ℕ) (is : Bool) → is_utf8 name ≡ is → (IsUtf8 name → ⊥) → is_utf8 name ≡ false
not-utf8 name true is other = absurd (other (IsUtf8-from_is_utf8 name is))
not-utf8 name false is other = is

found-named : (d : Drawer) (name : List ℕ) → IsUtf8 name → found_in d name ≡ held_in (named d.files name)
found-named d name is = ap (λ (at : Bool). cond at (held_in (named d.files name)) (Err troubles.NotNamed)) (is_utf8-from_IsUtf8 name is)

held-short : (text : List ℕ) → length text ≤ file_limit → held_in (Some text) ≡ Ok text
held-short text within =
    let test : nat_lt file_limit (length text) ≡ false = grind (arith, nat_tests) in
    ap (λ (at : Bool). cond at (Err troubles.TooLong) (Ok text)) test

held-long : (text : List ℕ) → file_limit < length text → held_in (Some text) ≡ Err troubles.TooLong
held-long text above =
    let test : nat_lt file_limit (length text) ≡ true = grind (arith, nat_tests) in
    ap (λ (at : Bool). cond at (Err troubles.TooLong) (Ok text)) test

-- its answer is what is held, and nothing has changed
abbrev Reads : Drawer → Drawer → List ℕ → Result (List ℕ) FileTrouble → Type 0
Reads d e name read = (read ≡ found_in d name) × (e ≡ d)

module _ (d e : Drawer) (closed : d.left ≡ None) (name : List ℕ) where
  shut : e ≡ record d { left = None } → e ≡ d
  shut is = is ∙ ap (λ (at : Option (List ℕ)). record d { left = at }) (sym closed)

  -- an open file is read, and closed
  module _ (is : IsUtf8 name) (reads : List FileCall) (have : Have d (Opened name true ∷ (reads ++ Closed ∷ [])) e) where
    opened : (all : List ℕ) × (named d.files name ≡ Some all)
    opened = some-of (named d.files name) have.1.0

    parts : (mid : Drawer) × Have have.0 reads mid × Have mid (Closed ∷ []) e
    parts = split have.0 e reads (Closed ∷ []) have.2

    open-is : have.0.left ≡ Some opened.0
    open-is = ap (λ (at : Drawer). at.left) have.1.1 ∙ opened.1

    start-is : (at : Option (List ℕ)) → record have.0 { left = at } ≡ record d { left = at }
    start-is at = ap (λ (it : Drawer). record it { left = at }) have.1.1

    end-is : (begins : Option (List ℕ)) → parts.0 ≡ record have.0 { left = begins } → e ≡ d
    end-is begins is = shut (parts.2.2 ∙ (parts.2.1 ∙ (ap (λ (it : Drawer). record it { left = None }) is ∙ start-is None)))

    whole-read : (text : List ℕ) → IsGiven reads (Ok text) → Reads d e name (Ok text)
    whole-read text given =
        let last = split have.0 parts.0 given.0 (Gave given.1 (Some []) ∷ []) (subst (λ (at : List FileCall). Have have.0 at parts.0) given.3 parts.1) in
        let so_far = reads-left have.0 last.0 given.0 text opened.0 given.4 last.1 open-is in
        let left : List ℕ = last.2.1.0 in
        let none : left ≡ [] = last.2.1.2 given.2 refl in
        let same : so_far.0 ≡ left = some-same last.0.left so_far.0 left (ap (λ (at : Drawer). at.left) so_far.2) last.2.1.1 in
        let all : opened.0 ≡ text = so_far.1 ∙ (ap (λ (at : List ℕ). text ++ at) (same ∙ none) ∙ append-nil text) in (
          sym (found-named d name is ∙ (ap held_in (opened.1 ∙ ap Some all) ∙ held-short text given.5)),
          end-is (Some left) (last.2.2 ∙ (last.2.1.3 ∙ ap (λ (at : Drawer). record at { left = Some left }) so_far.2)),
        )

    long-read : IsGiven reads (Err troubles.TooLong) → Reads d e name (Err troubles.TooLong)
    long-read given =
        let so_far = reads-left have.0 parts.0 reads given.0 opened.0 given.1 parts.1 open-is in
        let size : length opened.0 ≡ length given.0 + length so_far.0 = ap length so_far.1 ∙ length-append given.0 so_far.0 in
        let above : file_limit < length opened.0 = omega (arith, size, given.2) in (
          sym (found-named d name is ∙ (ap held_in opened.1 ∙ held-long opened.0 above)),
          end-is (Some so_far.0) so_far.2,
        )

    not-read : IsGiven reads (Err troubles.NotRead) → ⊥
    not-read given =
        let last = split have.0 parts.0 given.0 (Gave given.1 None ∷ []) (subst (λ (at : List FileCall). Have have.0 at parts.0) given.3 parts.1) in
        let so_far = reads-left have.0 last.0 given.0 given.2 opened.0 given.4 last.1 open-is in
        some-none last.0.left so_far.0 (ap (λ (at : Drawer). at.left) so_far.2) last.2.1.0

  pub found-known : (calls : List FileCall) (read : Result (List ℕ) FileTrouble) → IsFound name calls read → Have d calls e → Reads d e name read
  found-known calls (Ok text) found have = whole-read found.0 found.1 (subst (λ (at : List FileCall). Have d at e) found.2 have) text found.3
  found-known calls (Err troubles.TooLong) found have = long-read found.0 found.1 (subst (λ (at : List FileCall). Have d at e) found.2 have) found.3
  found-known calls (Err troubles.NotRead) found have = absurd (not-read found.0 found.1 (subst (λ (at : List FileCall). Have d at e) found.2 have) found.3)
  found-known calls (Err troubles.NotNamed) found have =
      let test : is_utf8 name ≡ false = not-utf8 name (is_utf8 name) refl found.0 in
      (sym (ap (λ (at : Bool). cond at (held_in (named d.files name)) (Err troubles.NotNamed)) test), subst (λ (at : List FileCall). Have d at e) found.1 have)
  found-known calls (Err troubles.NotOpened) found have =
      let one : Have d (Opened name false ∷ []) e = subst (λ (at : List FileCall). Have d at e) found.1 have in
      let none : named d.files name ≡ None = none-of (named d.files name) one.1.0 in
      (sym (found-named d name found.0 ∙ ap held_in none), shut (one.2 ∙ (one.1.1 ∙ ap (λ (at : Option (List ℕ)). record d { left = at }) none)))
  found-known calls (Err troubles.TooDeep) found have = absurd found.3
  found-known calls (Err troubles.HasPoint) found have = absurd found.3
  found-known calls (Err (troubles.BadSign place line)) found have = absurd found.3
  found-known calls (Err (troubles.NoCode place)) found have = absurd found.3
  found-known calls (Err (troubles.BadLine line)) found have = absurd found.3
  found-known calls (Err (troubles.LowAddress line)) found have = absurd found.3
  found-known calls (Err troubles.LongTape) found have = absurd found.3
  found-known calls (Err troubles.NotWritten) found have = absurd found.3

-- ---- a text that is kept

abbrev Keeps : Drawer → Drawer → List ℕ → List ℕ → Bool → Type 0
Keeps d e name text kept = (kept ≡ kept_in d name) × (e ≡ cond kept (with_text d name text) d)

kept-known : (d e : Drawer) (name text : List ℕ) (calls : List FileCall) (kept : Bool) → IsHanded name text calls kept → Have d calls e → Keeps d e name text kept
kept-known d e name text calls kept (inl handed) have =
    let one : Have d (Handed name text kept ∷ []) e = subst (λ (at : List FileCall). Have d at e) handed.1 have in (
      one.1.0 ∙ sym (ap (λ (at : Bool). cond at (takes d name) false) (is_utf8-from_IsUtf8 name handed.0)),
      one.2 ∙ one.1.1,
    )
kept-known d e name text calls kept (inr other) have =
    let test : is_utf8 name ≡ false = not-utf8 name (is_utf8 name) refl other.0 in
    let same : e ≡ d = subst (λ (at : List FileCall). Have d at e) other.1 have in (
      other.2 ∙ sym (ap (λ (at : Bool). cond at (takes d name) false) test),
      same ∙ sym (ap (λ (at : Bool). cond at (with_text d name text) d) other.2),
    )

open-kept : (d : Drawer) (name text : List ℕ) (kept : Bool) → d.left ≡ None → (cond kept (with_text d name text) d).left ≡ None
open-kept d name text true closed = closed
open-kept d name text false closed = closed

with-kept : (d : Drawer) (made : Made) (name : List ℕ) (s : _) (kept : Bool) → with_kept d (works.Keep made) name s kept ≡ cond kept (with_text d name (text_made made s)) d
with-kept d made name s true = refl
with-kept d made name s false = refl

-- ---- one step

abbrev pub IsNext : Drawer → Drawer → Seat → List Told → Told → Type 0
IsNext d e seat coming told = (next_for (wish_at seat) d seat.wanted coming ≡ Some told) × (e ≡ drawer_after d seat told) × (e.left ≡ None)

line-wish : (wish : Wish) (line : List ℕ) → is_wished wish (Typed line) ≡ true → wish ≡ wishes.Line
line-wish wishes.Line line is = refl
line-wish wishes.Onward line is = absurd (cc)
line-wish wishes.Read line is = absurd (cc)
line-wish (wishes.Keep made) line is = absurd (cc)
line-wish wishes.Nothing line is = absurd (cc)

name-wish : (wish : Wish) (name : List ℕ) → is_wished wish (First name) ≡ true → wish ≡ wishes.Line
name-wish wishes.Line name is = refl
name-wish wishes.Onward name is = absurd (cc)
name-wish wishes.Read name is = absurd (cc)
name-wish (wishes.Keep made) name is = absurd (cc)
name-wish wishes.Nothing name is = absurd (cc)

onward-wish : (wish : Wish) → is_wished wish Onward ≡ true → wish ≡ wishes.Onward
onward-wish wishes.Onward is = refl
onward-wish wishes.Line is = absurd (cc)
onward-wish wishes.Read is = absurd (cc)
onward-wish (wishes.Keep made) is = absurd (cc)
onward-wish wishes.Nothing is = absurd (cc)

read-wish : (wish : Wish) (read : Result (List ℕ) FileTrouble) → is_wished wish (Found read) ≡ true → wish ≡ wishes.Read
read-wish wishes.Read read is = refl
read-wish wishes.Line read is = absurd (cc)
read-wish wishes.Onward read is = absurd (cc)
read-wish (wishes.Keep made) read is = absurd (cc)
read-wish wishes.Nothing read is = absurd (cc)

keep-wish : (wish : Wish) (kept : Bool) → is_wished wish (Kept kept) ≡ true → (made : Made) × (wish ≡ wishes.Keep made)
keep-wish (wishes.Keep made) kept is = (made, refl)
keep-wish wishes.Read kept is = absurd (cc)
keep-wish wishes.Line kept is = absurd (cc)
keep-wish wishes.Onward kept is = absurd (cc)
keep-wish wishes.Nothing kept is = absurd (cc)

first-coming : (told : Told) (more coming : List Told) → IsFirstOf (told ∷ more) coming → (rest : List Told) × (coming ≡ told ∷ rest)
first-coming told more coming first = (more ++ first.0, first.1)

module _ (d e : Drawer) (seat : Seat) (closed : d.left ≡ None) where
  pub step : (told : Told) (more coming : List Told) (calls : List FileCall) → is_wished (wish_at seat) told ≡ true → AreFor seat told calls → Have d calls e → IsFirstOf (outer_in (told ∷ more)) coming → IsNext d e seat coming told
  step (Typed line) more coming calls wished none have first =
      let wish : wish_at seat ≡ wishes.Line = line-wish (wish_at seat) line wished in
      let same : e ≡ d = subst (λ (at : List FileCall). Have d at e) none have in
      let next = first-coming (Typed line) (outer_in more) coming first in (
        ap (λ (at : Wish). next_for at d seat.wanted coming) wish ∙ ap (λ (at : List Told). next_for wishes.Line d seat.wanted at) next.1,
        same,
        ap (λ (at : Drawer). at.left) same ∙ closed,
      )
  step (First name) more coming calls wished none have first =
      let wish : wish_at seat ≡ wishes.Line = name-wish (wish_at seat) name wished in
      let same : e ≡ d = subst (λ (at : List FileCall). Have d at e) none have in
      let next = first-coming (First name) (outer_in more) coming first in (
        ap (λ (at : Wish). next_for at d seat.wanted coming) wish ∙ ap (λ (at : List Told). next_for wishes.Line d seat.wanted at) next.1,
        same,
        ap (λ (at : Drawer). at.left) same ∙ closed,
      )
  step Onward more coming calls wished none have first =
      let same : e ≡ d = subst (λ (at : List FileCall). Have d at e) none have in (
        ap (λ (at : Wish). next_for at d seat.wanted coming) (onward-wish (wish_at seat) wished),
        same,
        ap (λ (at : Drawer). at.left) same ∙ closed,
      )
  step (Found read) more coming calls wished asked have first =
      let wish : wish_at seat ≡ wishes.Read = read-wish (wish_at seat) read wished in
      let some = read-wanted seat wish in
      let found : IsFound some.0.name calls read = subst (λ (at : Option Wanted). IfSome at (λ it. IsFound it.name calls read)) some.1 asked in
      let known = found-known d e closed some.0.name calls read found have in (
        ap (λ (at : Wish). next_for at d seat.wanted coming) wish
            ∙ (ap (λ (at : Option Wanted). next_for wishes.Read d at coming) some.1 ∙ ap (λ (at : Result (List ℕ) FileTrouble). Some (Found at)) (sym known.0)),
        known.1,
        ap (λ (at : Drawer). at.left) known.1 ∙ closed,
      )
  step (Kept kept) more coming calls wished asked have first =
      let is = keep-wish (wish_at seat) kept wished in
      let some = keep-wanted seat is.0 is.1 in
      let at-some : IsKeptFor some.0.work some.0.name seat.recorded.state.debugger.state calls kept =
      subst (λ (at : Option Wanted). IfSome at (λ it. IsKeptFor it.work it.name seat.recorded.state.debugger.state calls kept)) some.1 asked in
      let handed : IsHanded some.0.name (text_made is.0 seat.recorded.state.debugger.state) calls kept =
      subst (λ (at : Work). IsKeptFor at some.0.name seat.recorded.state.debugger.state calls kept) some.2 at-some in
      let known = kept-known d e some.0.name (text_made is.0 seat.recorded.state.debugger.state) calls kept handed have in
      let after : drawer_after d seat (Kept kept) ≡ cond kept (with_text d some.0.name (text_made is.0 seat.recorded.state.debugger.state)) d =
      ap (λ (at : Option Wanted). option_map_or (λ it. with_kept d it.work it.name seat.recorded.state.debugger.state kept) at d) some.1
      ∙ (ap (λ (at : Work). with_kept d at some.0.name seat.recorded.state.debugger.state kept) some.2 ∙ with-kept d is.0 some.0.name seat.recorded.state.debugger.state kept) in (
        ap (λ (at : Wish). next_for at d seat.wanted coming) is.1
            ∙ (ap (λ (at : Option Wanted). next_for (wishes.Keep is.0) d at coming) some.1 ∙ ap (λ (at : Bool). Some (Kept at)) (sym known.0)),
        known.1 ∙ sym after,
        ap (λ (at : Drawer). at.left) known.1 ∙ open-kept d some.0.name (text_made is.0 seat.recorded.state.debugger.state) kept closed,
      )

-- what comes after one
abbrev pub after-first : (told : Told) (more coming : List Told) → IsFirstOf (outer_in (told ∷ more)) coming → IsFirstOf (outer_in more) (coming_after told coming)
after-first (Typed line) more coming first = (first.0, ap (λ (at : List Told). drop 1 at) first.1)
after-first (First name) more coming first = (first.0, ap (λ (at : List Told). drop 1 at) first.1)
after-first Onward more coming first = first
after-first (Found read) more coming first = first
after-first (Kept kept) more coming first = first

-- all that was told
pub known_told : (told : List Told) (d e : Drawer) (seat : Seat) (calls : List FileCall) (coming : List Told) → AreWished seat told calls → HaveAnswered drawer_answer d calls e → d.left ≡ None → IsFirstOf (outer_in told) coming
    → told ≡ told_for (length told) d seat coming
known_told [] d e seat calls coming wished have closed first = refl
known_told (told ∷ more) d e seat calls coming wished have closed first =
    let parts = split d e wished.1 wished.2 (subst (λ (at : List FileCall). Have d at e) wished.3 have) in
    let one : IsNext d parts.0 seat coming told = step d parts.0 seat closed told more coming wished.1 wished.0 wished.4 parts.1 first in
    let rest : more ≡ told_for (length more) parts.0 (said_to seat told).seat (coming_after told coming) =
    known_told more parts.0 e (said_to seat told).seat wished.2 (coming_after told coming) wished.5 parts.2 one.2 (after-first told more coming first) in
    let then : more ≡ told_for (length more) (drawer_after d seat told) (said_to seat told).seat (coming_after told coming) =
    rest ∙ ap (λ (at : Drawer). told_for (length more) at (said_to seat told).seat (coming_after told coming)) one.1 in
    ap (λ (at : List Told). told ∷ at) then
    ∙ sym (ap (λ (at : Option Told). option_map_or (λ it. it ∷ told_for (length more) (drawer_after d seat it) (said_to seat it).seat (coming_after it coming)) at []) one.0)
