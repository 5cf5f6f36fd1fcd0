-- What a desk is told, one thing after another.
use Rattle.std.proofs.Common.{◌≡◌, ℕ, true, Option, Some, None, IfSome, inl, List, [], ◌∷◌, ◌++◌, refl, sym, ap, subst, ◌∙◌, append_assoc}
use Rattle.std.specs.Io.KnownBytes.{Appends}
use Rattle.std.specs.Str.Lines.{lines}
use Rattle.std.proofs.lemmas.List.{append-nil}
use Rattle.lgp_stream.specs.Language.{StandsOf}
use Rattle.lgp_stream.specs.declared.stream.StreamFault.{StreamFault}
use Rattle.lgp_stream.specs.declared.stream.StreamFault.TheVariants.{Memory, Read, Write}
use Rattle.lgp_stream.proofs.KnownLemmas.{Appends-none, Appends-trans}
use Rattle.lgp_desk.specs.Desk.{First, Found, Kept, Onward, Seat, Told, Typed, all_said, said_to, wish_at}
use Rattle.lgp_desk.specs.Files.{FileCall}
use Rattle.lgp_desk.specs.Sessions.{AreFor, AreWished, HasNames, IsBegun, IsBegunAt, IsBrokenOff, IsFirstOf, IsNext, IsTold, IsTypedUpTo, IsUnread, is_wished, lines_in, prompt_before, prompt_of, with_next, written_for}
use Rattle.lgp_desk.specs.ServedInside.{IsTypedSoFar}

-- ---- told in two parts

seat-append : (seat : Seat) (xs ys : List Told) → (all_said seat (xs ++ ys)).seat ≡ (all_said (all_said seat xs).seat ys).seat
seat-append seat [] ys = refl
seat-append seat (x ∷ xs) ys = seat-append (said_to seat x).seat xs ys

written-append : (seat : Seat) (xs ys : List Told) → written_for seat (xs ++ ys) ≡ written_for seat xs ++ written_for (all_said seat xs).seat ys
written-append seat [] ys = refl
written-append seat (x ∷ xs) ys =
    let prompt = prompt_before seat x in
    let said = said_to seat x in
    ap (λ (more : List ℕ). prompt ++ (said.text ++ more)) (written-append said.seat xs ys)
    ∙ (ap (λ (more : List ℕ). prompt ++ more) (sym (append_assoc said.text (written_for said.seat xs) (written_for (all_said said.seat xs).seat ys)))
    ∙ sym (append_assoc prompt (said.text ++ written_for said.seat xs) (written_for (all_said said.seat xs).seat ys)))

wished-append : (seat : Seat) (xs ys : List Told) (cs ds : List FileCall) → AreWished seat xs cs → AreWished (all_said seat xs).seat ys ds → AreWished seat (xs ++ ys) (cs ++ ds)
wished-append seat [] ys cs ds first rest = subst (λ (at : List FileCall). AreWished seat ys (at ++ ds)) (sym first) rest
wished-append seat (x ∷ xs) ys cs ds first rest = (
  first.0,
  first.1,
  first.2 ++ ds,
  ap (λ (at : List FileCall). at ++ ds) first.3 ∙ append_assoc first.1 first.2 ds,
  first.4,
  wished-append (said_to seat x).seat xs ys first.2 ds first.5 rest,
)

pub lines-append : (xs ys : List Told) → lines_in (xs ++ ys) ≡ lines_in xs ++ lines_in ys
lines-append [] ys = refl
lines-append (Typed line ∷ xs) ys = ap (λ (more : List (List ℕ)). line ∷ more) (lines-append xs ys)
lines-append (First name ∷ xs) ys = lines-append xs ys
lines-append (Onward ∷ xs) ys = lines-append xs ys
lines-append (Found read ∷ xs) ys = lines-append xs ys
lines-append (Kept kept ∷ xs) ys = lines-append xs ys

pub names-append : (names mid left : List (List ℕ)) (xs ys : List Told) → HasNames names xs mid → HasNames mid ys left → HasNames names (xs ++ ys) left
names-append names mid left [] ys one two = subst (λ (at : List (List ℕ)). HasNames at ys left) one two
names-append names mid left (First name ∷ xs) ys one two = (one.0, one.1, names-append one.0 mid left xs ys one.2 two)
names-append names mid left (Typed line ∷ xs) ys one two = (one.0, names-append names mid left xs ys one.1 two)
names-append names mid left (Onward ∷ xs) ys one two = names-append names mid left xs ys one two
names-append names mid left (Found read ∷ xs) ys one two = names-append names mid left xs ys one two
names-append names mid left (Kept kept ∷ xs) ys one two = names-append names mid left xs ys one two

-- where no line was typed, and there was no name
names-any : (names left : List (List ℕ)) (xs : List Told) → HasNames [] xs left → lines_in xs ≡ [] → HasNames names xs names
names-any names left [] told none = refl
names-any names left (First name ∷ xs) told none = absurd (cc)
names-any names left (Typed line ∷ xs) told none = absurd (cc)
names-any names left (Onward ∷ xs) told none = names-any names left xs told none
names-any names left (Found read ∷ xs) told none = names-any names left xs told none
names-any names left (Kept kept ∷ xs) told none = names-any names left xs told none

pub told-none : (seat : Seat) (w : Option (List ℕ)) → IsTold [] seat seat w w []
told-none seat w = record { wished = refl; seat = refl; written = Appends-none w }

pub one-wished : (calls : List FileCall) (seat : Seat) (told : Told) → is_wished (wish_at seat) told ≡ true → AreFor seat told calls → AreWished seat (told ∷ []) calls
one-wished calls seat told wished asked = (wished, calls, [], sym (append-nil calls), asked, refl)

pub told-one : (calls : List FileCall) (before after : Seat) (w₀ w : Option (List ℕ)) (told : Told) (text : List ℕ) → is_wished (wish_at before) told ≡ true → AreFor before told calls → after ≡ (said_to before told).seat
    → text ≡ prompt_before before told ++ (said_to before told).text → Appends w₀ w text → IsTold calls before after w₀ w (told ∷ [])
told-one calls before after w₀ w told text wished asked after_is text_is written =
    let whole : text ≡ prompt_before before told ++ ((said_to before told).text ++ []) =
    text_is ∙ ap (λ (said : List ℕ). prompt_before before told ++ said) (sym (append-nil (said_to before told).text)) in
    record { wished = one-wished calls before told wished asked; seat = after_is; written = subst (λ (said : List ℕ). Appends w₀ w said) whole written }

pub told-then : (cs ds : List FileCall) (a b c : Seat) (w₀ w₁ w₂ : Option (List ℕ)) (xs ys : List Told) → IsTold cs a b w₀ w₁ xs → IsTold ds b c w₁ w₂ ys → IsTold (cs ++ ds) a c w₀ w₂ (xs ++ ys)
told-then cs ds a b c w₀ w₁ w₂ xs ys one two =
    let next : IsTold ds (all_said a xs).seat c w₁ w₂ ys = subst (λ (at : Seat). IsTold ds at c w₁ w₂ ys) one.seat two in
    record {
      wished = wished-append a xs ys cs ds one.wished next.wished;
      seat = next.seat ∙ sym (seat-append a xs ys);
      written = subst (λ (said : List ℕ). Appends w₀ w₂ said) (sym (written-append a xs ys)) (Appends-trans w₀ w₁ w₂ _ _ one.written next.written);
    }

-- ---- broken off

-- where nothing was told before
begun-none : (fault : StreamFault) (seat : Seat) → IsBegunAt fault seat []
begun-none Memory seat = inl refl
begun-none Read seat = refl
begun-none (Write count) seat = refl

pub broken-here : (calls : List FileCall) (seat : Seat) (names names_left : List (List ℕ)) (input left : Option (List ℕ)) (next : Option Told) (fault : StreamFault) (front text : List ℕ) (w₀ w₁ w₂ : Option (List ℕ))
    → AreWished seat (with_next [] next) calls → IsNext seat next front text → Appends w₀ w₁ front → StandsOf text fault w₁ w₂ → (fault ≡ Read → IsUnread seat input left [] next front)
    → HasNames names (with_next [] next) names_left → IfSome input (λ all. IsFirstOf (lines_in (with_next [] next)) (lines all)) → IsBrokenOff calls seat names input left fault w₀ w₂
broken-here calls seat names names_left input left next fault front text w₀ w₁ w₂ wished is_next written stands read names_told typed = record {
  told = [];
  next = next;
  front = front;
  text = text;
  between = w₁;
  asked = calls;
  begun = [];
  calls_are = sym (append-nil calls);
  wished = wished;
  is_begun = begun-none fault (all_said seat (with_next [] next)).seat;
  is_next = is_next;
  written = written;
  stands = stands;
  read = read;
  names_left = names_left;
  names_told = names_told;
  typed = typed;
}

pub none-typed : (input : Option (List ℕ)) → IfSome input (λ all. IsFirstOf [] (lines all))
none-typed None = tt
none-typed (Some all) = (lines all, refl)

-- of the next text nothing was written, for want of memory, and nothing was asked of files
pub broken-none : (seat : Seat) (names : List (List ℕ)) (input left w : Option (List ℕ)) → IsBrokenOff [] seat names input left Memory w w
broken-none seat names input left w =
    broken-here [] seat names names input left None Memory [] (prompt_of seat) w w w refl (inl (refl, refl)) (Appends-none w) (Appends-none w) (λ read. absurd (cc)) refl (none-typed input)

-- the same, and something was asked of files
pub broken-begun : (calls : List FileCall) (seat : Seat) (names : List (List ℕ)) (input left w : Option (List ℕ)) → IsBegun seat calls → IsBrokenOff calls seat names input left Memory w w
broken-begun calls seat names input left w begun = record {
  told = [];
  next = None;
  front = [];
  text = prompt_of seat;
  between = w;
  asked = [];
  begun = calls;
  calls_are = refl;
  wished = refl;
  is_begun = begun;
  is_next = inl (refl, refl);
  written = Appends-none w;
  stands = Appends-none w;
  read = λ read. absurd (cc);
  names_left = names;
  names_told = refl;
  typed = none-typed input;
}

first-of-none : (xs all : List (List ℕ)) → IsFirstOf xs [] → IsFirstOf xs all
first-of-none [] all first = (all, refl)
first-of-none (x ∷ xs) all first = absurd (cc)

-- where no line was told, those that were are first ones of any
pub broken-lines : (calls : List FileCall) (seat : Seat) (names : List (List ℕ)) (input before left : Option (List ℕ)) (fault : StreamFault) (w₀ w : Option (List ℕ)) → (fault ≡ Read → ⊥)
    → IsBrokenOff calls seat names (Some []) before fault w₀ w → IsBrokenOff calls seat names input left fault w₀ w
broken-lines calls seat names input before left fault w₀ w other broken = record {
  told = broken.told;
  next = broken.next;
  front = broken.front;
  text = broken.text;
  between = broken.between;
  asked = broken.asked;
  begun = broken.begun;
  calls_are = broken.calls_are;
  wished = broken.wished;
  is_begun = broken.is_begun;
  is_next = broken.is_next;
  written = broken.written;
  stands = broken.stands;
  read = λ is. absurd (other is);
  names_left = broken.names_left;
  names_told = broken.names_told;
  typed = any input;
} where
  any : (at : Option (List ℕ)) → IfSome at (λ all. IsFirstOf (lines_in (with_next broken.told broken.next)) (lines all))
  any None = tt
  any (Some all) = first-of-none (lines_in (with_next broken.told broken.next)) (lines all) broken.typed

with_next-append : (xs ys : List Told) (next : Option Told) → with_next (xs ++ ys) next ≡ xs ++ with_next ys next
with_next-append xs ys None = refl
with_next-append xs ys (Some told) = append_assoc xs ys (told ∷ [])

-- where none of any names and lines was told
pub broken-names : (calls : List FileCall) (seat : Seat) (names : List (List ℕ)) (left : Option (List ℕ)) (fault : StreamFault) (w₀ w : Option (List ℕ)) → IsBrokenOff calls seat [] (Some []) left fault w₀ w
    → IsBrokenOff calls seat names (Some []) left fault w₀ w
broken-names calls seat names left fault w₀ w broken = record {
  told = broken.told;
  next = broken.next;
  front = broken.front;
  text = broken.text;
  between = broken.between;
  asked = broken.asked;
  begun = broken.begun;
  calls_are = broken.calls_are;
  wished = broken.wished;
  is_begun = broken.is_begun;
  is_next = broken.is_next;
  written = broken.written;
  stands = broken.stands;
  read = broken.read;
  names_left = names;
  names_told = names-any names broken.names_left (with_next broken.told broken.next) broken.names_told (none-of (lines_in (with_next broken.told broken.next)) broken.typed);
  typed = broken.typed;
} where
  none-of : (xs : List (List ℕ)) → IsFirstOf xs [] → xs ≡ []
  none-of [] first = refl
  none-of (x ∷ xs) first = absurd (cc)

-- of lines the first n were typed before: what is typed then are the next ones
first-then : (before now all more : List (List ℕ)) → all ≡ before ++ more → IsFirstOf now more → IsFirstOf (before ++ now) all
first-then before now all more is first =
    (first.0, is ∙ (ap (λ (at : List (List ℕ)). before ++ at) first.1 ∙ sym (append_assoc before now first.0)))

-- after what was told before
pub broken-then : (cs ds : List FileCall) (a b : Seat) (names mid : List (List ℕ)) (input now left : Option (List ℕ)) (fault : StreamFault) (w₀ w₁ w₂ : Option (List ℕ)) (xs : List Told)
    → IsTold cs a b w₀ w₁ xs → IsBrokenOff ds b mid now left fault w₁ w₂ → HasNames names xs mid → IfSome input (λ all. IsTypedSoFar all now xs) → IsBrokenOff (cs ++ ds) a names input left fault w₀ w₂
broken-then cs ds a b names mid input now left fault w₀ w₁ w₂ xs one broken names_told so_far =
    let next : IsBrokenOff ds (all_said a xs).seat mid now left fault w₁ w₂ = subst (λ (at : Seat). IsBrokenOff ds at mid now left fault w₁ w₂) one.seat broken in
    let all : List Told = with_next next.told next.next in
    let same : with_next (xs ++ next.told) next.next ≡ xs ++ all = with_next-append xs next.told next.next in
    let seat : (all_said a (xs ++ next.told)).seat ≡ (all_said (all_said a xs).seat next.told).seat = seat-append a xs next.told in
    record {
      told = xs ++ next.told;
      next = next.next;
      front = next.front;
      text = next.text;
      between = next.between;
      asked = cs ++ next.asked;
      begun = next.begun;
      calls_are = ap (λ (at : List FileCall). cs ++ at) next.calls_are ∙ sym (append_assoc cs next.asked next.begun);
      wished = subst (λ (at : List Told). AreWished a at (cs ++ next.asked)) (sym same) (wished-append a xs all cs next.asked one.wished next.wished);
      is_begun = subst (λ (at : Seat). IsBegunAt fault at next.begun) (sym (ap (λ (at : List Told). (all_said a at).seat) same ∙ seat-append a xs all)) next.is_begun;
      is_next = subst (λ (at : Seat). IsNext at next.next next.front next.text) (sym seat) next.is_next;
      written = subst (λ (said : List ℕ). Appends w₀ next.between said) (sym (append_assoc (written_for a xs) (written_for (all_said a xs).seat next.told) next.front)
          ∙ ap (λ (said : List ℕ). said ++ next.front) (sym (written-append a xs next.told)))
          (Appends-trans w₀ w₁ next.between _ _ one.written next.written);
      stands = next.stands;
      read = λ is. unread next.told next.next next.front (all_said (all_said a xs).seat next.told).seat (all_said a (xs ++ next.told)).seat (sym seat) (next.read is);
      names_left = next.names_left;
      names_told = subst (λ (at : List Told). HasNames names at next.names_left) (sym same) (names-append names mid next.names_left xs all names_told next.names_told);
      typed = subst (λ (at : List Told). IfSome input (λ text. IsFirstOf (lines_in at) (lines text))) (sym same) (typed-then input all so_far next.typed);
    } where
      typed-then : (at : Option (List ℕ)) (ys : List Told) → IfSome at (λ all. IsTypedSoFar all now xs) → IfSome now (λ all. IsFirstOf (lines_in ys) (lines all))
          → IfSome at (λ all. IsFirstOf (lines_in (xs ++ ys)) (lines all))
      typed-then None ys so_far first = tt
      typed-then (Some all) ys so_far typed =
          let first : IsFirstOf (lines_in ys) (lines so_far.0) = subst (λ (at : Option (List ℕ)). IfSome at (λ text. IsFirstOf (lines_in ys) (lines text))) so_far.1 typed in
          subst (λ (at : List (List ℕ)). IsFirstOf at (lines all)) (sym (lines-append xs ys))
          (first-then (lines_in xs) (lines_in ys) (lines all) (lines so_far.0) so_far.2 first)

      typed-up : (at : Option (List ℕ)) (ys : List Told) → IfSome at (λ all. IsTypedSoFar all now xs) → IfSome now (λ all. IsTypedUpTo all left ys) → IfSome at (λ all. IsTypedUpTo all left (xs ++ ys))
      typed-up None ys so_far up = tt
      typed-up (Some all) ys so_far up =
          let then : IsTypedUpTo so_far.0 left ys = subst (λ (at : Option (List ℕ)). IfSome at (λ text. IsTypedUpTo text left ys)) so_far.1 up in
          let rest : List (List ℕ) = lines (then.0 ++ then.2) in (
            then.0,
            then.1,
            then.2,
            then.3,
            so_far.2 ∙ (ap (λ (at : List (List ℕ)). lines_in xs ++ at) then.4
                ∙ (sym (append_assoc (lines_in xs) (lines_in ys) rest) ∙ ap (λ (at : List (List ℕ)). at ++ rest) (sym (lines-append xs ys)))),
          )

      unread : (ys : List Told) (then : Option Told) (front : List ℕ) (e f : Seat) → e ≡ f → IsUnread e now left ys then front → IsUnread f input left (xs ++ ys) then front
      unread ys then front e f same it = record { none = it.none; prompted = it.prompted ∙ ap prompt_of same; typed = typed-up input ys so_far it.typed }
