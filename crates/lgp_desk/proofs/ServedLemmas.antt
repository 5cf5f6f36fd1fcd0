-- What is done for a desk over streams, step by step.
use Rattle.std.proofs.Common.{◌≡◌, ℕ, ◌+◌, ◌<◌, ◌≤◌, Bool, true, false, ◌||◌, Option, Some, None, IfErr, IfOk, IfSome, OnOk, inl, inr, is_ok, Result, Ok, Err, List, [], ◌∷◌, ◌++◌, drop, get_or, length, refl, sym, ap, subst, ◌∙◌, append_assoc}
use Rattle.std.specs.Io.KnownBytes.{Appends}
use Rattle.std.specs.Str.Lines.{lines}
use Rattle.std.proofs.lemmas.List.{append-nil, drop_all, drop_more}
use Rattle.lgp_stream.specs.KeptLine.{Kept}
use Rattle.lgp_stream.specs.LineReading.{HasLine, IsBrokenLine, left_of}
use Rattle.lgp_stream.specs.Language.{HasCause, StandsOf}
use Rattle.lgp_stream.specs.declared.stream.StreamFault.{StreamFault}
use Rattle.lgp_stream.specs.declared.stream.StreamFault.TheVariants.{Read, Write, Memory}
use Rattle.lgp_stream.proofs.KnownLemmas.{Appends-none, Appends-trans}
use Rattle.lgp_lab.specs.Tasks.{Failures}
use Rattle.lgp_desk.specs.Desk.{First, Found, Kept as KeptTold, Onward, Seat, Told, Typed, closing_refuses, closing_text, said_to, taken_seat, wish_at}
use Rattle.lgp_desk.specs.Files.{ByCalls, FileCall}
use Rattle.lgp_desk.specs.Sessions.{HasAnswered, HasNames, IsBegun, IsBrokenOff, IsFirstOf, IsSession, IsTold, IsTypedOf, IsTypedUpTo, is_wished, lines_in, prompt_before, prompt_of}
use Rattle.lgp_desk.specs.ServedInside.{AreAllOrLeft, HasFirsts, HasToldFirsts, IsClosedAt, IsGranted, IsServed, IsServing, IsTypedIn, IsTypedOrClosed, IsTypedSoFar, IsTypedTo, IsUnderWay, is_of_files, needs_no_file}
use Rattle.lgp_desk.specs.declared.wish.Wish.{Wish}
use Rattle.lgp_desk.specs.declared.wish.Wish.TheVariants as wishes
use Rattle.lgp_desk.specs.declared.writing.Manner.{Manner}
use Rattle.lgp_desk.proofs.ToldLemmas.{broken-begun, broken-here, broken-none, broken-names, broken-then, lines-append, names-append, none-typed, one-wished, told-none, told-one, told-then}

-- ---- a text is written

pub stands-of : {T : Type 0} (now text : List ℕ) (w₀ w : Option (List ℕ)) (result : Result T StreamFault) → now ≡ text → IfErr result (λ fault. StandsOf now fault w₀ w) → IfErr result (λ fault. StandsOf text fault w₀ w)
stands-of now text w₀ w result is stands = subst (λ (at : List ℕ). IfErr result (λ fault. StandsOf at fault w₀ w)) is stands

-- what is written fails, not what is read
pub not-read : (fault : StreamFault) (failed : Bool) → HasCause fault false failed → fault ≡ Read → ⊥
not-read Read failed cause is = absurd (cc)
not-read Memory failed cause is = absurd (cc)
not-read (Write count) failed cause is = absurd (cc)

-- ---- wishes that concern files

files-lines : (told : Told) → is_of_files told ≡ true → lines_in (told ∷ []) ≡ []
files-lines Onward of = refl
files-lines (Found read) of = refl
files-lines (KeptTold kept) of = refl
files-lines (Typed line) of = absurd (cc)
files-lines (First name) of = refl

files-names : (told : Told) → is_of_files told ≡ true → (names : List (List ℕ)) → HasNames names (told ∷ []) names
files-names Onward of names = refl
files-names (Found read) of names = refl
files-names (KeptTold kept) of names = refl
files-names (Typed line) of names = absurd (cc)
files-names (First name) of names = absurd (cc)

files-prompt : (seat : Seat) (told : Told) → is_of_files told ≡ true → prompt_before seat told ≡ []
files-prompt seat Onward of = refl
files-prompt seat (Found read) of = refl
files-prompt seat (KeptTold kept) of = refl
files-prompt seat (Typed line) of = absurd (cc)
files-prompt seat (First name) of = refl

granted-text : (seat : Seat) (told : Told) (text : List ℕ) → is_of_files told ≡ true → text ≡ (said_to seat told).text → text ≡ prompt_before seat told ++ (said_to seat told).text
granted-text seat told text of is = is ∙ ap (λ (prompt : List ℕ). prompt ++ (said_to seat told).text) (sym (files-prompt seat told of))

pub serving-more : (cs ds : List FileCall) (a b c : Seat) (w₀ w₁ w₂ : Option (List ℕ)) (text : List ℕ) → IsServing cs a b w₀ w₁ → IsGranted ds b c (Some text) → Appends w₁ w₂ text → IsServing (cs ++ ds) a c w₀ w₂
serving-more cs ds a b c w₀ w₁ w₂ text so_far granted written =
    let told = granted.0 in
    let of = granted.2 in
    let one : IsTold ds b c w₁ w₂ (told ∷ []) = told-one ds b c w₁ w₂ told text granted.1 granted.5 granted.4 (granted-text b told text of granted.3) written in
    record {
      told = so_far.told ++ told ∷ [];
      is_told = told-then cs ds a b c w₀ w₁ w₂ so_far.told (told ∷ []) so_far.is_told one;
      lines = lines-append so_far.told (told ∷ []) ∙ (ap (λ (at : List (List ℕ)). at ++ lines_in (told ∷ [])) so_far.lines ∙ files-lines told of);
      names = λ names. names-append names names names so_far.told (told ∷ []) (so_far.names names) (files-names told of names);
    }

-- of no text all lines so far were typed
none-so-far : (xs : List Told) → lines_in xs ≡ [] → IsTypedSoFar [] (Some []) xs
none-so-far xs none = ([], refl, ap (λ (at : List (List ℕ)). at ++ lines []) (sym none))

serving-then : (cs ds : List FileCall) (a b : Seat) (fault : StreamFault) (w₀ w₁ w₂ : Option (List ℕ)) → IsServing cs a b w₀ w₁ → IsBrokenOff ds b [] (Some []) None fault w₁ w₂ → IsBrokenOff (cs ++ ds) a [] (Some []) None fault w₀ w₂
serving-then cs ds a b fault w₀ w₁ w₂ so_far broken =
    broken-then cs ds a b [] [] (Some []) (Some []) None fault w₀ w₁ w₂ so_far.told so_far.is_told broken (so_far.names []) (none-so-far so_far.told so_far.lines)

pub serving-stopped : (cs : List FileCall) (a b : Seat) (w₀ w : Option (List ℕ)) → IsServing cs a b w₀ w → IsBrokenOff cs a [] (Some []) None Memory w₀ w
serving-stopped cs a b w₀ w so_far = subst (λ (at : List FileCall). IsBrokenOff at a [] (Some []) None Memory w₀ w) (append-nil cs) (serving-then cs [] a b Memory w₀ w w so_far (broken-none b [] (Some []) None w))

-- memory was refused where something was asked of files
pub serving-begun : (cs ds : List FileCall) (a b : Seat) (w₀ w : Option (List ℕ)) → IsServing cs a b w₀ w → IsBegun b ds → IsBrokenOff (cs ++ ds) a [] (Some []) None Memory w₀ w
serving-begun cs ds a b w₀ w so_far begun = serving-then cs ds a b Memory w₀ w w so_far (broken-begun ds b [] (Some []) None w begun)

-- a part of what is told of files was written
granted-broken : (ds : List FileCall) (b c : Seat) (w₁ w₂ : Option (List ℕ)) (text : List ℕ) (fault : StreamFault) (failed : Bool) → IsGranted ds b c (Some text) → StandsOf text fault w₁ w₂ → HasCause fault false failed
    → IsBrokenOff ds b [] (Some []) None fault w₁ w₂
granted-broken ds b c w₁ w₂ text fault failed granted stands cause =
    let told = granted.0 in
    let of = granted.2 in
    broken-here ds b [] [] (Some []) None (Some told) fault [] text w₁ w₁ w₂ (one-wished ds b told granted.1 granted.5) (inr (sym (files-prompt b told of), granted.3)) (Appends-none w₁) stands (λ is. absurd (not-read fault failed cause is))
    (files-names told of []) ([], sym (ap (λ (at : List (List ℕ)). at ++ []) (files-lines told of)))

pub serving-broken : (cs ds : List FileCall) (a b c : Seat) (w₀ w₁ w₂ : Option (List ℕ)) (text : List ℕ) (fault : StreamFault) (failed : Bool) → IsServing cs a b w₀ w₁ → IsGranted ds b c (Some text) → StandsOf text fault w₁ w₂
    → HasCause fault false failed → IsBrokenOff (cs ++ ds) a [] (Some []) None fault w₀ w₂
serving-broken cs ds a b c w₀ w₁ w₂ text fault failed so_far granted stands cause = serving-then cs ds a b fault w₀ w₁ w₂ so_far (granted-broken ds b c w₁ w₂ text fault failed granted stands cause)

-- ---- a line that is typed, and the end

line-wished : (wish : Wish) → wish ≡ wishes.Line → (told : Told) → is_wished wishes.Line told ≡ true → is_wished wish told ≡ true
line-wished wish is told wished = ap (λ (at : Wish). is_wished at told) is ∙ wished

pub typed-to : (a b : Seat) (left₀ left w₀ w₁ w₂ : Option (List ℕ)) (kept : Kept) (prompt text : List ℕ) (has : HasLine left₀ left (Some kept)) → wish_at a ≡ wishes.Line
    → prompt ≡ prompt_of a → text ≡ (said_to a (Typed has.0)).text → b ≡ (said_to a (Typed has.0)).seat → Appends w₀ w₁ prompt → Appends w₁ w₂ text
    → IsTypedTo a b left₀ left w₀ w₂
typed-to a b left₀ left w₀ w₁ w₂ kept prompt text has wish prompt_is text_is after first then =
    let told : Told = Typed has.0 in
    record {
      line = has.0;
      is_told = told-one [] a b w₀ w₂ told (prompt ++ text) (line-wished (wish_at a) wish told refl) refl after
          (ap (λ (at : List ℕ). at ++ text) prompt_is ∙ ap (λ (at : List ℕ). prompt_of a ++ at) text_is)
          (Appends-trans w₀ w₁ w₂ prompt text first then);
      typed = has.2;
    }

pub closed-at : (a b : Seat) (left₀ left w₀ w₁ w₂ : Option (List ℕ)) (prompt text : List ℕ) → HasLine left₀ left None
    → prompt ≡ prompt_of a → text ≡ closing_text a → b.has_refused ≡ (a.has_refused || closing_refuses a) → Appends w₀ w₁ prompt → Appends w₁ w₂ text
    → IsClosedAt a b left₀ w₀ w₂
closed-at a b left₀ left w₀ w₁ w₂ prompt text none prompt_is text_is refused first then = record {
  written = subst (λ (said : List ℕ). Appends w₀ w₂ said) (ap (λ (at : List ℕ). at ++ text) prompt_is ∙ ap (λ (at : List ℕ). prompt_of a ++ at) text_is)
      (Appends-trans w₀ w₁ w₂ prompt text first then);
  refused = refused;
  typed = at-end left₀ none;
} where
  at-end : (at : Option (List ℕ)) → IfSome at (λ it. (lines it ≡ []) × (left ≡ Some [])) → IfSome at (λ it. lines it ≡ [])
  at-end None has = tt
  at-end (Some it) has = has.0

-- broken off in the prompt, in a read after it, in the text for a line, and in that for the end
pub prompt-broken : (a : Seat) (now left w₀ w : Option (List ℕ)) (fault : StreamFault) (failed : Bool) → StandsOf (prompt_of a) fault w₀ w → HasCause fault false failed → IsBrokenOff [] a [] now left fault w₀ w
prompt-broken a now left w₀ w fault failed stands cause =
    broken-here [] a [] [] now left None fault [] (prompt_of a) w₀ w₀ w refl (inl (refl, refl)) (Appends-none w₀) stands (λ is. absurd (not-read fault failed cause is)) refl (none-typed now)

pub end-broken : (a : Seat) (now left w₀ w₁ w₂ : Option (List ℕ)) (fault : StreamFault) (failed : Bool) → Appends w₀ w₁ (prompt_of a) → StandsOf (closing_text a) fault w₁ w₂ → HasCause fault false failed
    → IsBrokenOff [] a [] now left fault w₀ w₂
end-broken a now left w₀ w₁ w₂ fault failed begun stands cause =
    broken-here [] a [] [] now left None fault (prompt_of a) (closing_text a) w₀ w₁ w₂ refl (inr (refl, refl)) begun stands (λ is. absurd (not-read fault failed cause is)) refl (none-typed now)

up-to-piece : (now left : Option (List ℕ)) → IsBrokenLine now left → IfSome now (λ text. IsTypedUpTo text left [])
up-to-piece None left broken = tt
up-to-piece (Some text) None broken = absurd broken.2
up-to-piece (Some text) (Some more) broken = (broken.0, broken.1, more, refl, ap lines broken.2)

pub read-broken : (a : Seat) (now left w₀ w : Option (List ℕ)) → Appends w₀ w (prompt_of a) → IsBrokenLine now left → IsBrokenOff [] a [] now left Read w₀ w
read-broken a now left w₀ w begun broken =
    broken-here [] a [] [] now left None Read (prompt_of a) (closing_text a) w₀ w w refl (inr (refl, refl)) begun (Appends-none w)
    (λ is. record { none = refl; prompted = refl; typed = up-to-piece now left broken }) refl (none-typed now)

pub line-broken : (a : Seat) (now then left w₀ w₁ w₂ : Option (List ℕ)) (kept : Kept) (fault : StreamFault) (failed : Bool) (has : HasLine now then (Some kept)) → wish_at a ≡ wishes.Line
    → Appends w₀ w₁ (prompt_of a) → StandsOf (said_to a (Typed has.0)).text fault w₁ w₂ → HasCause fault false failed → IsBrokenOff [] a [] now left fault w₀ w₂
line-broken a now then left w₀ w₁ w₂ kept fault failed has wish begun stands cause =
    let told : Told = Typed has.0 in
    broken-here [] a [] [] now left (Some told) fault (prompt_of a) (said_to a told).text w₀ w₁ w₂ (one-wished [] a told (line-wished (wish_at a) wish told refl) refl) (inr (refl, refl)) begun stands
    (λ is. absurd (not-read fault failed cause is)) (refl, refl) (first-line now has.2) where
      first-line : (at : Option (List ℕ)) → IfSome at (λ text. IsTypedIn text then has.0) → IfSome at (λ text. IsFirstOf (has.0 ∷ []) (lines text))
      first-line None typed = tt
      first-line (Some text) typed = (lines typed.0, typed.1)

-- ---- the names that come first

pub firsts-none : (seat : Seat) (names : List (List ℕ)) (w : Option (List ℕ)) → needs_no_file (wish_at seat) ≡ true → HasToldFirsts [] seat seat names 0 w w
firsts-none seat names w takes = record { told = []; is_told = told-none seat w; lines = refl; names_told = refl; takes = takes }

is-line-wish : (wish : Wish) → needs_no_file wish ≡ true → (wish ≡ wishes.Nothing → ⊥) → wish ≡ wishes.Line
is-line-wish wishes.Line takes other = refl
is-line-wish wishes.Nothing takes other = absurd (other refl)
is-line-wish wishes.Onward takes other = absurd (cc)
is-line-wish wishes.Read takes other = absurd (cc)
is-line-wish (wishes.Keep made) takes other = absurd (cc)

pub is-line : (seat : Seat) → needs_no_file (wish_at seat) ≡ true → (wish_at seat ≡ wishes.Nothing → ⊥) → wish_at seat ≡ wishes.Line
is-line seat takes other = is-line-wish (wish_at seat) takes other

name-next : (names : List (List ℕ)) (i : ℕ) (d name : List ℕ) → i < length names → name ≡ get_or names i d → drop i names ≡ name ∷ drop (i + 1) names
name-next names i d name within is = drop_more names i d within ∙ ap (λ (at : List ℕ). at ∷ drop (i + 1) names) (sym is)

first-told : (b c : Seat) (name text : List ℕ) (w₁ w₂ : Option (List ℕ)) → needs_no_file (wish_at b) ≡ true → (wish_at b ≡ wishes.Nothing → ⊥) → text ≡ (said_to b (First name)).text
    → c ≡ (said_to b (First name)).seat → Appends w₁ w₂ text → IsTold [] b c w₁ w₂ (First name ∷ [])
first-told b c name text w₁ w₂ takes other text_is c_is written =
    told-one [] b c w₁ w₂ (First name) text (line-wished (wish_at b) (is-line b takes other) (First name) refl) refl c_is text_is written

pub firsts-more : (cs ds : List FileCall) (a b c e : Seat) (names : List (List ℕ)) (i : ℕ) (d name text : List ℕ) (w₀ w₁ w₂ w₃ : Option (List ℕ)) → i < length names → name ≡ get_or names i d
    → HasToldFirsts cs a b names i w₀ w₁ → (wish_at b ≡ wishes.Nothing → ⊥) → text ≡ (said_to b (First name)).text → c ≡ (said_to b (First name)).seat → Appends w₁ w₂ text → IsServed ds c e w₂ w₃
    → HasToldFirsts (cs ++ ds) a e names (i + 1) w₀ w₃
firsts-more cs ds a b c e names i d name text w₀ w₁ w₂ w₃ within name_is so_far other text_is c_is written served =
    let one : IsTold [] b c w₁ w₂ (First name ∷ []) = first-told b c name text w₁ w₂ so_far.takes other text_is c_is written in
    let two : IsTold ds b e w₁ w₃ (First name ∷ served.0.told) = told-then [] ds b c e w₁ w₂ w₃ (First name ∷ []) served.0.told one served.0.is_told in
    record {
      told = so_far.told ++ First name ∷ served.0.told;
      is_told = told-then cs ds a b e w₀ w₁ w₃ so_far.told (First name ∷ served.0.told) so_far.is_told two;
      lines = lines-append so_far.told (First name ∷ served.0.told) ∙ (ap (λ (at : List (List ℕ)). at ++ lines_in served.0.told) so_far.lines ∙ served.0.lines);
      names_told = names-append names (drop i names) (drop (i + 1) names) so_far.told (First name ∷ served.0.told) so_far.names_told
          (drop (i + 1) names, name-next names i d name within name_is, served.0.names (drop (i + 1) names));
      takes = served.1;
    }

-- broken off in the text for a name, or in what is done then
pub first-broken : (cs : List FileCall) (a b : Seat) (names : List (List ℕ)) (i : ℕ) (d name : List ℕ) (fault : StreamFault) (failed : Bool) (w₀ w₁ w₂ : Option (List ℕ)) → i < length names → name ≡ get_or names i d
    → HasToldFirsts cs a b names i w₀ w₁ → (wish_at b ≡ wishes.Nothing → ⊥) → StandsOf (said_to b (First name)).text fault w₁ w₂ → HasCause fault false failed → IsBrokenOff cs a names (Some []) None fault w₀ w₂
first-broken cs a b names i d name fault failed w₀ w₁ w₂ within name_is so_far other stands cause =
    let told : Told = First name in
    let here : IsBrokenOff [] b (drop i names) (Some []) None fault w₁ w₂ =
    broken-here [] b (drop i names) (drop (i + 1) names) (Some []) None (Some told) fault [] (said_to b told).text w₁ w₁ w₂ (one-wished [] b told (line-wished (wish_at b) (is-line b so_far.takes other) told refl) refl) (inr (refl, refl))
    (Appends-none w₁) stands (λ is. absurd (not-read fault failed cause is)) (drop (i + 1) names, name-next names i d name within name_is, refl) ([], refl) in
    subst (λ (at : List FileCall). IsBrokenOff at a names (Some []) None fault w₀ w₂) (append-nil cs) (broken-then cs [] a b names (drop i names) (Some []) (Some []) None fault w₀ w₁ w₂ so_far.told so_far.is_told here so_far.names_told (none-so-far so_far.told so_far.lines))

pub firsts-broken : (cs ds : List FileCall) (a b c : Seat) (names : List (List ℕ)) (i : ℕ) (d name text : List ℕ) (fault : StreamFault) (w₀ w₁ w₂ w₃ : Option (List ℕ)) → i < length names → name ≡ get_or names i d
    → HasToldFirsts cs a b names i w₀ w₁ → (wish_at b ≡ wishes.Nothing → ⊥) → text ≡ (said_to b (First name)).text → c ≡ (said_to b (First name)).seat → Appends w₁ w₂ text
    → IsBrokenOff ds c [] (Some []) None fault w₂ w₃ → IsBrokenOff (cs ++ ds) a names (Some []) None fault w₀ w₃
firsts-broken cs ds a b c names i d name text fault w₀ w₁ w₂ w₃ within name_is so_far other text_is c_is written broken =
    let one : IsTold [] b c w₁ w₂ (First name ∷ []) = first-told b c name text w₁ w₂ so_far.takes other text_is c_is written in
    let then : IsBrokenOff ds b (drop i names) (Some []) None fault w₁ w₃ =
    broken-then [] ds b c (drop i names) (drop (i + 1) names) (Some []) (Some []) None fault w₁ w₂ w₃ (First name ∷ []) one (broken-names ds c (drop (i + 1) names) None fault w₂ w₃ broken)
    (drop (i + 1) names, name-next names i d name within name_is, refl) ([], refl, refl) in
    broken-then cs ds a b names (drop i names) (Some []) (Some []) None fault w₀ w₁ w₃ so_far.told so_far.is_told then so_far.names_told (none-so-far so_far.told so_far.lines)

-- all were told, or `quit` was typed before
pub firsts-all : (cs : List FileCall) (a b : Seat) (names : List (List ℕ)) (i : ℕ) (w₀ w : Option (List ℕ)) → length names ≤ i → HasToldFirsts cs a b names i w₀ w → HasFirsts cs a b names w₀ w
firsts-all cs a b names i w₀ w all so_far = (i, so_far, inl (drop_all i names all))

pub firsts-left : (cs : List FileCall) (a b : Seat) (names : List (List ℕ)) (i : ℕ) (w₀ w : Option (List ℕ)) → HasToldFirsts cs a b names i w₀ w → wish_at b ≡ wishes.Nothing → HasFirsts cs a b names w₀ w
firsts-left cs a b names i w₀ w so_far nothing = (i, so_far, inr nothing)

-- ---- a session under way

pub under-way : (cs : List FileCall) (before : Seat) (names : List (List ℕ)) (i : ℕ) (input w₀ w : Option (List ℕ)) (seat : Seat) → HasToldFirsts cs before seat names i w₀ w
    → IsUnderWay cs before names (drop i names) input (left_of [] input) seat w₀ w
under-way cs before names i input w₀ w seat firsts = record {
  told = firsts.told;
  is_told = firsts.is_told;
  names_told = firsts.names_told;
  typed = begun input;
} where
  begun : (at : Option (List ℕ)) → IfSome at (λ text. IsTypedSoFar text (left_of [] at) firsts.told)
  begun None = tt
  begun (Some text) = (text, refl, ap (λ (at : List (List ℕ)). at ++ lines text) (sym firsts.lines))

typed-then : (text : List ℕ) (left next : Option (List ℕ)) (xs : List Told) (line : List ℕ) → IsTypedSoFar text left xs → IfSome left (λ at. IsTypedIn at next line) → IsTypedSoFar text next (xs ++ Typed line ∷ [])
typed-then text left next xs line so_far typed =
    let more : IsTypedIn so_far.0 next line = subst (λ (at : Option (List ℕ)). IfSome at (λ it. IsTypedIn it next line)) so_far.1 typed in (
      more.0,
      more.2,
      so_far.2 ∙ (ap (λ (at : List (List ℕ)). lines_in xs ++ at) more.1
          ∙ (sym (append_assoc (lines_in xs) (line ∷ []) (lines more.0)) ∙ ap (λ (at : List (List ℕ)). at ++ lines more.0) (sym (lines-append xs (Typed line ∷ []))))),
    )

pub way-typed : (cs : List FileCall) (before : Seat) (names : List (List ℕ)) (input left next w₀ w₁ w₂ : Option (List ℕ)) (b c : Seat) → IsUnderWay cs before names [] input left b w₀ w₁ → IsTypedTo b c left next w₁ w₂
    → IsUnderWay cs before names [] input next c w₀ w₂
way-typed cs before names input left next w₀ w₁ w₂ b c way typed = record {
  told = way.told ++ Typed typed.line ∷ [];
  is_told = subst (λ (at : List FileCall). IsTold at before c w₀ w₂ (way.told ++ Typed typed.line ∷ [])) (append-nil cs) (told-then cs [] before b c w₀ w₁ w₂ way.told (Typed typed.line ∷ []) way.is_told typed.is_told);
  names_told = names-append names [] [] way.told (Typed typed.line ∷ []) way.names_told (refl, refl);
  typed = so_far input way.typed;
} where
  so_far : (at : Option (List ℕ)) → IfSome at (λ text. IsTypedSoFar text left way.told) → IfSome at (λ text. IsTypedSoFar text next (way.told ++ Typed typed.line ∷ []))
  so_far None before = tt
  so_far (Some text) before = typed-then text left next way.told typed.line before typed.typed

pub way-served : (cs ds : List FileCall) (before : Seat) (names : List (List ℕ)) (input left w₀ w₁ w₂ : Option (List ℕ)) (b c : Seat) → IsUnderWay cs before names [] input left b w₀ w₁ → IsServed ds b c w₁ w₂
    → IsUnderWay (cs ++ ds) before names [] input left c w₀ w₂
way-served cs ds before names input left w₀ w₁ w₂ b c way served = record {
  told = way.told ++ served.0.told;
  is_told = told-then cs ds before b c w₀ w₁ w₂ way.told served.0.told way.is_told served.0.is_told;
  names_told = names-append names [] [] way.told served.0.told way.names_told (served.0.names []);
  typed = so_far input way.typed;
} where
  same : lines_in (way.told ++ served.0.told) ≡ lines_in way.told
  same = lines-append way.told served.0.told ∙ (ap (λ (at : List (List ℕ)). lines_in way.told ++ at) served.0.lines ∙ append-nil (lines_in way.told))

  so_far : (at : Option (List ℕ)) → IfSome at (λ text. IsTypedSoFar text left way.told) → IfSome at (λ text. IsTypedSoFar text left (way.told ++ served.0.told))
  so_far None before = tt
  so_far (Some text) before =
      (before.0, before.1, before.2 ∙ ap (λ (at : List (List ℕ)). at ++ lines before.0) (sym same))

pub way-stopped : (cs ds : List FileCall) (before : Seat) (names mid : List (List ℕ)) (input now left : Option (List ℕ)) (fault : StreamFault) (w₀ w₁ w₂ : Option (List ℕ)) (b : Seat) → IsUnderWay cs before names mid input now b w₀ w₁
    → IsBrokenOff ds b mid now left fault w₁ w₂ → IsBrokenOff (cs ++ ds) before names input left fault w₀ w₂
way-stopped cs ds before names mid input now left fault w₀ w₁ w₂ b way broken = broken-then cs ds before b names mid input now left fault w₀ w₁ w₂ way.told way.is_told broken way.names_told way.typed

-- where nothing more was asked of files
pub way-broken : (cs : List FileCall) (before : Seat) (names mid : List (List ℕ)) (input now left : Option (List ℕ)) (fault : StreamFault) (w₀ w₁ w₂ : Option (List ℕ)) (b : Seat) → IsUnderWay cs before names mid input now b w₀ w₁
    → IsBrokenOff [] b mid now left fault w₁ w₂ → IsBrokenOff cs before names input left fault w₀ w₂
way-broken cs before names mid input now left fault w₀ w₁ w₂ b way broken =
    subst (λ (at : List FileCall). IsBrokenOff at before names input left fault w₀ w₂) (append-nil cs) (way-stopped cs [] before names mid input now left fault w₀ w₁ w₂ b way broken)

-- a line is wished for where no name is left
pub none-left : (names_left : List (List ℕ)) (seat : Seat) → AreAllOrLeft names_left seat → (wish_at seat ≡ wishes.Nothing → ⊥) → names_left ≡ []
none-left names_left seat (inl none) other = none
none-left names_left seat (inr nothing) other = absurd (other nothing)

pub way-lined : (cs : List FileCall) (before : Seat) (names mid : List (List ℕ)) (input left w₀ w : Option (List ℕ)) (seat : Seat) → mid ≡ [] → IsUnderWay cs before names mid input left seat w₀ w → IsUnderWay cs before names [] input left seat w₀ w
way-lined cs before names mid input left w₀ w seat none way = subst (λ (at : List (List ℕ)). IsUnderWay cs before names at input left seat w₀ w) none way

-- ---- the end of a session

pub way-left : (cs : List FileCall) (before : Seat) (names mid : List (List ℕ)) (input left w₀ w : Option (List ℕ)) (seat : Seat) (refused : Bool) → IsUnderWay cs before names mid input left seat w₀ w → wish_at seat ≡ wishes.Nothing
    → refused ≡ seat.has_refused → IsSession cs before names input refused w₀ w
way-left cs before names mid input left w₀ w seat refused way wish refused_is = record {
  told = way.told;
  seat = seat;
  between = w;
  closed = false;
  is_told = way.is_told;
  ended = wish;
  written = Appends-none w;
  refused_is = refused_is;
  names_left = mid;
  names_told = way.names_told;
  names_all = λ closed. absurd (cc);
  typed = so_far input way.typed;
} where
  so_far : (at : Option (List ℕ)) → IfSome at (λ text. IsTypedSoFar text left way.told) → IfSome at (λ text. IsTypedOf text way.told false)
  so_far None before = tt
  so_far (Some text) before = ((lines before.0, before.2), λ closed. absurd (cc))

pub way-closed : (cs : List FileCall) (before : Seat) (names : List (List ℕ)) (input left w₀ w₁ w : Option (List ℕ)) (seat after : Seat) (refused : Bool) → IsUnderWay cs before names [] input left seat w₀ w₁ → wish_at seat ≡ wishes.Line
    → IsClosedAt seat after left w₁ w → refused ≡ after.has_refused → IsSession cs before names input refused w₀ w
way-closed cs before names input left w₀ w₁ w seat after refused way wish closed refused_is = record {
  told = way.told;
  seat = seat;
  between = w₁;
  closed = true;
  is_told = way.is_told;
  ended = wish;
  written = closed.written;
  refused_is = refused_is ∙ closed.refused;
  names_left = [];
  names_told = way.names_told;
  names_all = λ closed. refl;
  typed = so_far input way.typed;
} where
  so_far : (at : Option (List ℕ)) → IfSome at (λ text. IsTypedSoFar text left way.told) → IfSome at (λ text. IsTypedOf text way.told true)
  so_far None before = tt
  so_far (Some text) before =
      let none : lines before.0 ≡ [] = subst (λ (it : Option (List ℕ)). IfSome it (λ rest. lines rest ≡ [])) before.1 closed.typed in
      ((lines before.0, before.2), λ is. sym (before.2 ∙ (ap (λ (rest : List (List ℕ)). lines_in way.told ++ rest) none ∙ append-nil (lines_in way.told))))

-- a new desk wishes for a line
pub new-needs-no-file : (manner : Manner) → needs_no_file (wish_at (taken_seat manner)) ≡ true
unfolding wish_at
new-needs-no-file manner = refl

pub on-ok : {T E : Type 0} (P : Type 0) (result : Result T E) → is_ok result ≡ true → OnOk result P → P
on-ok P (Ok value) ok p = p
on-ok P (Err error) ok p = absurd (cc)

-- ---- a session from its beginning on

pub way-begun : (cs : List FileCall) (before : Seat) (names : List (List ℕ)) (input w₀ w : Option (List ℕ)) (seat : Seat) (unread : List ℕ) → unread ≡ [] → HasFirsts cs before seat names w₀ w
    → (mid : List (List ℕ)) × IsUnderWay cs before names mid input (left_of unread input) seat w₀ w × AreAllOrLeft mid seat × (needs_no_file (wish_at seat) ≡ true)
way-begun cs before names input w₀ w seat unread none firsts = (
  drop firsts.0 names,
  subst (λ (at : List ℕ). IsUnderWay cs before names (drop firsts.0 names) input (left_of at input) seat w₀ w) (sym none) (under-way cs before names firsts.0 input w₀ w seat firsts.1),
  firsts.2,
  firsts.1.takes,
)

pub begins-so : (manner : Manner) (desk : Seat) → desk ≡ taken_seat manner → needs_no_file (wish_at desk) ≡ true
begins-so manner desk new = subst (λ (at : Seat). needs_no_file (wish_at at) ≡ true) (sym new) (new-needs-no-file manner)

pub way-still : (cs : List FileCall) (before : Seat) (names mid : List (List ℕ)) (input now left w₀ w : Option (List ℕ)) (seat : Seat) → IsUnderWay cs before names mid input now seat w₀ w → IsBrokenOff cs before names input left Memory w₀ w
way-still cs before names mid input now left w₀ w seat way = way-broken cs before names mid input now left Memory w₀ w w seat way (broken-none seat mid now left w)

-- what `tell_typed` says of its answer
pub closed-by : (more : Bool) (a b : Seat) (left₀ left w₀ w : Option (List ℕ)) → more ≡ false → IsTypedOrClosed more a b left₀ left w₀ w → IsClosedAt a b left₀ w₀ w
closed-by more a b left₀ left w₀ w is has = subst (λ (at : Bool). IsTypedOrClosed at a b left₀ left w₀ w) is has

pub typed-by : (more : Bool) (a b : Seat) (left₀ left w₀ w : Option (List ℕ)) → more ≡ true → IsTypedOrClosed more a b left₀ left w₀ w → IsTypedTo a b left₀ left w₀ w
typed-by more a b left₀ left w₀ w is has = subst (λ (at : Bool). IsTypedOrClosed at a b left₀ left w₀ w) is has

-- the same as a result
pub answered-by : {S : Type 0} (answer : S → FileCall → S → Type 0) (f₀ f : S) (manner : Manner) (desk : Seat) (names : List (List ℕ)) (input left w₀ w : Option (List ℕ)) (failures : Failures) (result : Result Bool StreamFault) → desk ≡ taken_seat manner
    → IfOk result (λ refused. ByCalls answer f₀ f (λ calls. IsSession calls desk names input refused w₀ w)) → IfErr result (λ fault. ByCalls answer f₀ f (λ calls. IsBrokenOff calls desk names input left fault w₀ w)) → IfErr result (λ fault. HasCause fault failures.read failures.write)
    → ByCalls answer f₀ f (λ calls. HasAnswered calls manner names input left failures result w₀ w)
answered-by answer f₀ f manner desk names input left w₀ w failures (Ok refused) new held broken cause =
    (held.0, held.1, subst (λ (at : Seat). IsSession held.0 at names input refused w₀ w) new held.2)
answered-by answer f₀ f manner desk names input left w₀ w failures (Err fault) new held broken cause =
    (broken.0, broken.1, (cause, subst (λ (at : Seat). IsBrokenOff broken.0 at names input left fault w₀ w) new broken.2))
