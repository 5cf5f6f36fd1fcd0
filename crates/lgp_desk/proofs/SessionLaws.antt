-- What is written in a session with files that are known.
use Rattle.std.proofs.Common.{◌≡◌, ◌⊎◌, ℕ, zero, suc, ◌+◌, Bool, true, false, Option, Some, None, IfOk, Result, Ok, Err, inl, inr, List, [], ◌∷◌, ◌++◌, length, refl, sym, ap, subst, ◌∙◌, arith}
use Rattle.std.specs.Option.{option_map_or}
use Rattle.std.specs.Io.KnownBytes.{Appends}
use Rattle.std.specs.Str.Lines.{lines}
use Rattle.lgp_stream.specs.declared.stream.StreamFault.{StreamFault}
use Rattle.lgp_stream.proofs.KnownLemmas.{Appends-trans}
use Rattle.lgp_lab.specs.Tasks.{Failures}
use Rattle.lgp_desk.specs.Desk.{First, Found, Kept, Onward, Seat, Told, Typed, all_said, said_to, taken_seat, wish_at}
use Rattle.lgp_desk.specs.Files.{ByCalls, FileCall, HaveAnswered}
use Rattle.lgp_desk.specs.Sessions.{AreWished, HasAnswered, HasNames, IsFirstOf, IsSession, ending, last_wish, lines_in, refused_at, written_for}
use Rattle.lgp_desk.specs.Drawers.{Drawer, IsSessionText, coming_after, coming_of, drawer_after, drawer_answer, is_line, next_for, outer_in, session_told, told_for}
use Rattle.lgp_desk.specs.declared.wish.Wish.{Wish}
use Rattle.lgp_desk.specs.declared.wish.Wish.TheVariants as wishes
use Rattle.lgp_desk.proofs.DrawerLaws.{IsNext, after-first, split, step}

-- ---- the names and lines that a desk was told

outer-told : (told : List Told) (names left rest : List (List ℕ)) → HasNames names told left → coming_of names (lines_in told ++ rest) ≡ outer_in told ++ coming_of left rest
outer-told [] names left rest has = ap (λ (at : List (List ℕ)). coming_of at rest) (sym has)
outer-told (First name ∷ more) names left rest has =
    ap (λ (at : List (List ℕ)). coming_of at (lines_in more ++ rest)) has.1 ∙ ap (λ (at : List Told). First name ∷ at) (outer-told more has.0 left rest has.2)
outer-told (Typed line ∷ more) names left rest has =
    ap (λ (at : List (List ℕ)). coming_of at (line ∷ (lines_in more ++ rest))) has.0
    ∙ (ap (λ (at : List (List ℕ)). Typed line ∷ coming_of at (lines_in more ++ rest)) (sym has.0) ∙ ap (λ (at : List Told). Typed line ∷ at) (outer-told more names left rest has.1))
outer-told (Onward ∷ more) names left rest has = outer-told more names left rest has
outer-told (Found read ∷ more) names left rest has = outer-told more names left rest has
outer-told (Kept kept ∷ more) names left rest has = outer-told more names left rest has

-- ---- nothing more is told at the end

abbrev IsAtEnd : Seat → List Told → Type 0
IsAtEnd seat rest = ((wish_at seat ≡ wishes.Line) × (rest ≡ [])) ⊎ (wish_at seat ≡ wishes.Nothing)

none-next : (seat : Seat) (d : Drawer) (rest : List Told) → IsAtEnd seat rest → next_for (wish_at seat) d seat.wanted rest ≡ None
none-next seat d rest (inl line) = ap (λ (at : Wish). next_for at d seat.wanted rest) line.0 ∙ ap (λ (at : List Told). next_for wishes.Line d seat.wanted at) line.1
none-next seat d rest (inr nothing) = ap (λ (at : Wish). next_for at d seat.wanted rest) nothing

none-told : (n : ℕ) (d : Drawer) (seat : Seat) (rest : List Told) → IsAtEnd seat rest → told_for n d seat rest ≡ []
none-told zero d seat rest at-end = refl
none-told (suc n) d seat rest at-end =
    ap (λ (at : Option Told). option_map_or (λ it. it ∷ told_for n (drawer_after d seat it) (said_to seat it).seat (coming_after it rest)) at []) (none-next seat d rest at-end)

zero-plus : (n : ℕ) → 0 + n ≡ n
zero-plus n = omega arith

suc-plus : (a n : ℕ) → suc a + n ≡ suc (a + n)
suc-plus a n = omega arith

all-told : (n : ℕ) (told : List Told) (d e : Drawer) (seat : Seat) (calls : List FileCall) (coming : List Told) → AreWished seat told calls → HaveAnswered drawer_answer d calls e → d.left ≡ None
    → (first : IsFirstOf (outer_in told) coming) → IsAtEnd (all_said seat told).seat first.0 → told_for (length told + n) d seat coming ≡ told
all-told n [] d e seat calls coming wished have closed first at-end =
    ap (λ (k : ℕ). told_for k d seat coming) (zero-plus n)
    ∙ (ap (λ (at : List Told). told_for n d seat at) first.1 ∙ none-told n d seat first.0 at-end)
all-told n (told ∷ more) d e seat calls coming wished have closed first at-end =
    let parts = split d e wished.1 wished.2 (subst (λ (at : List FileCall). HaveAnswered drawer_answer d at e) wished.3 have) in
    let one : IsNext d parts.0 seat coming told = step d parts.0 seat closed told more coming wished.1 wished.0 wished.4 parts.1 first in
    let then : IsFirstOf (outer_in more) (coming_after told coming) = after-first told more coming first in
    let rest : told_for (length more + n) parts.0 (said_to seat told).seat (coming_after told coming) ≡ more =
    all-told n more parts.0 e (said_to seat told).seat wished.2 (coming_after told coming) wished.5 parts.2 one.2 then (subst (λ (at : List Told). IsAtEnd (all_said (said_to seat told).seat more).seat at) (sym (same-rest told more coming first)) at-end) in
    ap (λ (k : ℕ). told_for k d seat coming) (suc-plus (length more) n)
    ∙ (ap (λ (at : Option Told). option_map_or (λ it. it ∷ told_for (length more + n) (drawer_after d seat it) (said_to seat it).seat (coming_after it coming)) at []) one.0
    ∙ ap (λ (at : List Told). told ∷ at) (ap (λ (at : Drawer). told_for (length more + n) at (said_to seat told).seat (coming_after told coming)) (sym one.1) ∙ rest)) where
      same-rest : (told : Told) (more coming : List Told) (first : IsFirstOf (outer_in (told ∷ more)) coming) → (after-first told more coming first).0 ≡ first.0
      same-rest (Typed line) more coming first = refl
      same-rest (First name) more coming first = refl
      same-rest Onward more coming first = refl
      same-rest (Found read) more coming first = refl
      same-rest (Kept kept) more coming first = refl

-- ---- a session

line-closed : (closed : Bool) → is_line (last_wish closed) ≡ closed
line-closed true = refl
line-closed false = refl

module _ (calls : List FileCall) (d e : Drawer) (manner : _) (names : List (List ℕ)) (text : List ℕ) (refused : Bool) (w₀ w : Option (List ℕ)) (it : IsSession calls (taken_seat manner) names (Some text) refused w₀ w)
    (have : HaveAnswered drawer_answer d calls e) (shut : d.left ≡ None) where
  seat-is : it.seat ≡ (all_said (taken_seat manner) it.told).seat
  seat-is = it.is_told.seat

  abbrev rest : List (List ℕ)
  rest = it.typed.0.0

  coming-is : coming_of names (lines text) ≡ outer_in it.told ++ coming_of it.names_left rest
  coming-is = ap (λ (at : List (List ℕ)). coming_of names at) it.typed.0.1 ∙ outer-told it.told names it.names_left rest it.names_told

  at-end : (closed : Bool) → it.closed ≡ closed → IsAtEnd (all_said (taken_seat manner) it.told).seat (coming_of it.names_left rest)
  at-end true is =
      let none-left : it.names_left ≡ [] = it.names_all is in
      let all : lines_in it.told ≡ lines text = it.typed.1 is in
      let none-rest : rest ≡ [] = no-more (lines_in it.told) rest (all ∙ it.typed.0.1) in
      inl (ap wish_at (sym seat-is) ∙ (it.ended ∙ ap last_wish is), ap (λ (at : List (List ℕ)). coming_of at rest) none-left ∙ ap (λ (at : List (List ℕ)). coming_of [] at) none-rest) where
        no-more : (xs ys : List (List ℕ)) → xs ≡ xs ++ ys → ys ≡ []
        no-more [] ys is = sym is
        no-more (x ∷ xs) ys is = no-more xs ys (cc)
  at-end false is = inr (ap wish_at (sym seat-is) ∙ (it.ended ∙ ap last_wish is))

  told-is : (n : ℕ) → session_told d manner names text (length it.told + n) ≡ it.told
  told-is n = all-told n it.told d e (taken_seat manner) calls (coming_of names (lines text)) it.is_told.wished have shut (coming_of it.names_left rest, coming-is) (at-end it.closed refl)

  told-so : session_told d manner names text (length it.told) ≡ it.told
  told-so = ap (λ (n : ℕ). session_told d manner names text n) (sym (plus-zero (length it.told))) ∙ told-is 0 where
    plus-zero : (n : ℕ) → n + 0 ≡ n
    plus-zero n = omega arith

  closed-is : is_line (wish_at (all_said (taken_seat manner) it.told).seat) ≡ it.closed
  closed-is = ap (λ (at : Wish). is_line at) (ap wish_at (sym seat-is) ∙ it.ended) ∙ line-closed it.closed

  whole : Appends w₀ w (written_for (taken_seat manner) it.told ++ ending it.closed it.seat)
  whole = Appends-trans w₀ it.between w (written_for (taken_seat manner) it.told) (ending it.closed it.seat) it.is_told.written it.written

  pub session_text_is : IsSessionText d manner names text refused w₀ w
  session_text_is = record {
    steps = length it.told;
    enough = λ more. told-is more ∙ sym told-so;
    written = subst (λ (told : List Told). Appends w₀ w (written_for (taken_seat manner) told ++ ending (is_line (wish_at (all_said (taken_seat manner) told).seat)) (all_said (taken_seat manner) told).seat)) (sym told-so)
        (subst (λ (at : Bool). Appends w₀ w (written_for (taken_seat manner) it.told ++ ending at (all_said (taken_seat manner) it.told).seat)) (sym closed-is)
        (subst (λ (at : Seat). Appends w₀ w (written_for (taken_seat manner) it.told ++ ending it.closed at)) seat-is whole));
    refused_is = it.refused_is ∙ (ap (λ (at : Seat). refused_at it.closed at) seat-is ∙ (ap (λ (at : Bool). refused_at at (all_said (taken_seat manner) it.told).seat) (sym closed-is)
        ∙ ap (λ (told : List Told). refused_at (is_line (wish_at (all_said (taken_seat manner) told).seat)) (all_said (taken_seat manner) told).seat) (sym told-so)));
  }

-- ---- files whose answers are those of a drawer

at-drawer : {S : Type 0} (f : S → Drawer) (a b : S) (calls : List FileCall) → HaveAnswered (λ s call t. drawer_answer (f s) call (f t)) a calls b → HaveAnswered drawer_answer (f a) calls (f b)
at-drawer f a b [] same = ap f same
at-drawer f a b (call ∷ more) have = (f have.0, have.1, at-drawer f have.0 b more have.2)

pub session-so : {S : Type 0} (f : S → Drawer) (a b : S) (manner : _) (names : List (List ℕ)) (text : List ℕ) (input left : Option (List ℕ)) (failures : Failures) (result : Result Bool StreamFault) (w₀ w : Option (List ℕ))
    → input ≡ Some text → (f a).left ≡ None → ByCalls (λ s call t. drawer_answer (f s) call (f t)) a b (λ calls. HasAnswered calls manner names input left failures result w₀ w)
    → IfOk result (λ refused. IsSessionText (f a) manner names text refused w₀ w)
session-so f a b manner names text input left failures (Ok refused) w₀ w typed shut it =
    session_text_is it.0 (f a) (f b) manner names text refused w₀ w (subst (λ (at : Option (List ℕ)). IsSession it.0 (taken_seat manner) names at refused w₀ w) typed it.2) (at-drawer f a b it.0 it.1) shut
session-so f a b manner names text input left failures (Err fault) w₀ w typed shut it = tt
