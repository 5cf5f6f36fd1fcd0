-- What a desk wishes for of files, and what is asked of them for it.
use Rattle.std.proofs.Common.{◌≡◌, ℕ, Bool, true, false, cond, Option, Some, None, IfSome, is_some, option_map, unwrap_or, inl, inr, Result, List, refl, sym, ap, subst}
use Rattle.std.specs.Option.{option_map_or}
use Rattle.lgp_desk.specs.Desk.{Found, Kept, Seat, Wanted, file_wish, said_to, wish_at}
use Rattle.lgp_desk.specs.FileForms.{text_made}
use Rattle.lgp_desk.specs.Files.{ByCalls, FileCall, IsCutOff, IsFound, IsHanded}
use Rattle.lgp_desk.specs.Sessions.{AreFor, IsBegun, IsKeptFor, is_wished}
use Rattle.lgp_desk.specs.ServedInside.{IsGranted}
use Rattle.lgp_desk.specs.declared.files.FileTrouble.{FileTrouble}
use Rattle.lgp_desk.specs.declared.request.Made.{Made}
use Rattle.lgp_desk.specs.declared.request.Work.{Work}
use Rattle.lgp_desk.specs.declared.request.Work.TheVariants as works
use Rattle.lgp_desk.specs.declared.wish.Wish.{Wish}
use Rattle.lgp_desk.specs.declared.wish.Wish.TheVariants as wishes

-- ---- the file that is wished for

not-file : (inner left : Bool) (wish : Wish) → cond inner wishes.Onward (cond left wishes.Nothing wishes.Line) ≡ wish → (wish ≡ wishes.Onward → ⊥) → (wish ≡ wishes.Nothing → ⊥) → (wish ≡ wishes.Line → ⊥) → ⊥
not-file true left wish is onward nothing line = onward (sym is)
not-file false true wish is onward nothing line = nothing (sym is)
not-file false false wish is onward nothing line = line (sym is)

some-wanted : (inner left : Bool) (at : Option Wanted) (wish : Wish) → option_map_or (λ wanted. file_wish wanted.work) at (cond inner wishes.Onward (cond left wishes.Nothing wishes.Line)) ≡ wish
    → (wish ≡ wishes.Onward → ⊥) → (wish ≡ wishes.Nothing → ⊥) → (wish ≡ wishes.Line → ⊥) → (wanted : Wanted) × (at ≡ Some wanted) × (file_wish wanted.work ≡ wish)
some-wanted inner left None wish is onward nothing line = absurd (not-file inner left wish is onward nothing line)
some-wanted inner left (Some wanted) wish is onward nothing line = (wanted, refl, is)

pub read-wanted : (seat : Seat) → wish_at seat ≡ wishes.Read → (wanted : Wanted) × (seat.wanted ≡ Some wanted) × (file_wish wanted.work ≡ wishes.Read)
unfolding wish_at
read-wanted seat wish = some-wanted (is_some seat.inner) seat.has_left seat.wanted wishes.Read wish (λ is. absurd (cc)) (λ is. absurd (cc)) (λ is. absurd (cc))

kept-work : (work : Work) (made : Made) → file_wish work ≡ wishes.Keep made → work ≡ works.Keep made
kept-work works.Lines made is = absurd (cc)
kept-work works.Source made is = absurd (cc)
kept-work (works.Tape form) made is = absurd (cc)
kept-work (works.Restore form) made is = absurd (cc)
kept-work (works.Keep other) made is = cc

pub keep-wanted : (seat : Seat) (made : Made) → wish_at seat ≡ wishes.Keep made → (wanted : Wanted) × (seat.wanted ≡ Some wanted) × (wanted.work ≡ works.Keep made)
unfolding wish_at
keep-wanted seat made wish =
    let some = some-wanted (is_some seat.inner) seat.has_left seat.wanted (wishes.Keep made) wish (λ is. absurd (cc)) (λ is. absurd (cc)) (λ is. absurd (cc)) in
    (some.0, some.1, kept-work some.0.work made some.2)

-- its name, as it is answered
pub name-wanted : {T : Type 0} (now : T → List ℕ) (found : Option T) (other : T) (at : Option Wanted) (wanted : Wanted) → at ≡ Some wanted → option_map now found ≡ option_map (λ it. it.name) at → now (unwrap_or found other) ≡ wanted.name
name-wanted now None other at wanted is same = absurd (cc)
name-wanted now (Some name) other at wanted is same = cc

-- ---- what is asked for it

for-found : (seat : Seat) (wanted : Wanted) (read : Result (List ℕ) FileTrouble) (calls : List FileCall) → seat.wanted ≡ Some wanted → IsFound wanted.name calls read → AreFor seat (Found read) calls
for-found seat wanted read calls is found = subst (λ (at : Option Wanted). IfSome at (λ it. IsFound it.name calls read)) (sym is) found

for-kept : (seat : Seat) (wanted : Wanted) (made : Made) (calls : List FileCall) (kept : Bool) → seat.wanted ≡ Some wanted → wanted.work ≡ works.Keep made
    → IsHanded wanted.name (text_made made seat.recorded.state.debugger.state) calls kept → AreFor seat (Kept kept) calls
for-kept seat wanted made calls kept is work handed =
    subst (λ (at : Option Wanted). IfSome at (λ it. IsKeptFor it.work it.name seat.recorded.state.debugger.state calls kept)) (sym is)
    (subst (λ (at : Work). IsKeptFor at wanted.name seat.recorded.state.debugger.state calls kept) (sym work) handed)

module _ {S : Type 0} (answer : S → FileCall → S → Type 0) (f₀ f : S) (seat : Seat) where
  module _ (name : List ℕ) (read : Result (List ℕ) FileTrouble) (wish : wish_at seat ≡ wishes.Read) (named : (wanted : Wanted) → seat.wanted ≡ Some wanted → name ≡ wanted.name) (found : ByCalls answer f₀ f (λ calls. IsFound name calls read)) where
    found-for : AreFor seat (Found read) found.0
    found-for =
        let some = read-wanted seat wish in
        for-found seat some.0 read found.0 some.1 (subst (λ (at : List ℕ). IsFound at found.0 read) (named some.0 some.1) found.2)

    found-wished : is_wished (wish_at seat) (Found read) ≡ true
    found-wished = ap (λ (at : Wish). is_wished at (Found read)) wish

    pub read-granted : (after : Seat) (text : List ℕ) → text ≡ (said_to seat (Found read)).text → after ≡ (said_to seat (Found read)).seat → ByCalls answer f₀ f (λ calls. IsGranted calls seat after (Some text))
    read-granted after text text_is after_is = (found.0, found.1, (Found read, found-wished, refl, text_is, after_is, found-for))

    pub read-begun : ByCalls answer f₀ f (λ calls. IsBegun seat calls)
    read-begun = (found.0, found.1, inr (inl (Found read, found-wished, found-for)))

  pub read-cut : (name : List ℕ) → wish_at seat ≡ wishes.Read → ((wanted : Wanted) → seat.wanted ≡ Some wanted → name ≡ wanted.name) → ByCalls answer f₀ f (λ calls. IsCutOff name calls) → ByCalls answer f₀ f (λ calls. IsBegun seat calls)
  read-cut name wish named cut =
      let some = read-wanted seat wish in
      (cut.0, cut.1, inr (inr (some.0, some.1, wish, subst (λ (at : List ℕ). IsCutOff at cut.0) (named some.0 some.1) cut.2)))

  module _ (made : Made) (name text : List ℕ) (kept : Bool) (wish : wish_at seat ≡ wishes.Keep made) (named : (wanted : Wanted) → seat.wanted ≡ Some wanted → name ≡ wanted.name)
      (made_is : text ≡ text_made made seat.recorded.state.debugger.state) (handed : ByCalls answer f₀ f (λ calls. IsHanded name text calls kept)) where
    kept-for : AreFor seat (Kept kept) handed.0
    kept-for =
        let some = keep-wanted seat made wish in
        for-kept seat some.0 made handed.0 kept some.1 some.2
        (subst (λ (at : List ℕ). IsHanded some.0.name at handed.0 kept) made_is (subst (λ (at : List ℕ). IsHanded at text handed.0 kept) (named some.0 some.1) handed.2))

    kept-wished : is_wished (wish_at seat) (Kept kept) ≡ true
    kept-wished = ap (λ (at : Wish). is_wished at (Kept kept)) wish

    pub keep-granted : (after : Seat) (said : List ℕ) → said ≡ (said_to seat (Kept kept)).text → after ≡ (said_to seat (Kept kept)).seat → ByCalls answer f₀ f (λ calls. IsGranted calls seat after (Some said))
    keep-granted after said text_is after_is = (handed.0, handed.1, (Kept kept, kept-wished, refl, text_is, after_is, kept-for))

    pub keep-begun : ByCalls answer f₀ f (λ calls. IsBegun seat calls)
    keep-begun = (handed.0, handed.1, inr (inl (Kept kept, kept-wished, kept-for)))
