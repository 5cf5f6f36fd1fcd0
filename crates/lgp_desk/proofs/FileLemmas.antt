-- What is asked of files, one call after another.
use Rattle.std.proofs.Common.{◌≡◌, ℕ, ◌<◌, ◌≤◌, Bool, true, Some, None, List, [], ◌∷◌, ◌++◌, length, take, Result, Ok, Err, IfOk, IfErr, OnOk, inl, refl, sym, ap, subst, ◌∙◌, append_assoc}
use Rattle.std.specs.Str.{IsUtf8}
use Rattle.std.proofs.lemmas.List.{append-nil}
use Rattle.lgp_desk.specs.Files.{AreReads, ByCalls, FileCall, Gave, Closed, Handed, HaveAnswered, IsCutOff, IsFound, IsGiven, IsHanded, Opened, file_limit}
use Rattle.lgp_desk.specs.declared.files.FileTrouble.{FileTrouble}
use Rattle.lgp_desk.specs.declared.files.FileTrouble.TheVariants as troubles

module _ {S : Type 0} (answer : S → FileCall → S → Type 0) where
  pub answered-one : (a b : S) (call : FileCall) → answer a call b → HaveAnswered answer a (call ∷ []) b
  answered-one a b call it = (b, it, refl)

  pub answered-then : (a b c : S) (xs ys : List FileCall) → HaveAnswered answer a xs b → HaveAnswered answer b ys c → HaveAnswered answer a (xs ++ ys) c
  answered-then a b c [] ys one two = subst (λ (at : S). HaveAnswered answer at ys c) one two
  answered-then a b c (x ∷ xs) ys one two = (one.0, one.1, answered-then one.0 b c xs ys one.2 two)

  -- by no call
  pub by-none : (a : S) (holds : List FileCall → Type 0) → holds [] → ByCalls answer a a holds
  by-none a holds it = ([], refl, it)

  -- by the calls of two parts
  pub by-both : (a b c : S) (one two all : List FileCall → Type 0) → ByCalls answer a b one → ByCalls answer b c two
      → ((cs ds : List FileCall) → one cs → two ds → all (cs ++ ds)) → ByCalls answer a c all
  by-both a b c one two all first second both =
      (first.0 ++ second.0, answered-then a b c first.0 second.0 first.1 second.1, both first.0 second.0 first.2 second.2)

  pub by-same : (a b : S) (one all : List FileCall → Type 0) → ByCalls answer a b one → ((cs : List FileCall) → one cs → all cs) → ByCalls answer a b all
  by-same a b one all first so = (first.0, first.1, so first.0 first.2)

-- one more read
pub reads-more : (room : ℕ) (calls : List FileCall) (text portion : List ℕ) → AreReads calls text → (portion ≡ [] → ⊥) → AreReads (calls ++ Gave room (Some portion) ∷ []) (text ++ portion)
reads-more room [] text portion none some = (some, [], ap (λ (at : List ℕ). at ++ portion) none ∙ sym (append-nil portion), refl)
reads-more room (Gave other (Some first) ∷ more) text portion reads some = (
  reads.0,
  reads.1 ++ portion,
  ap (λ (at : List ℕ). at ++ portion) reads.2 ∙ append_assoc first reads.1 portion,
  reads-more room more reads.1 portion reads.3 some,
)
reads-more room (Gave other None ∷ more) text portion reads some = absurd reads
reads-more room (Opened name is ∷ more) text portion reads some = absurd reads
reads-more room (Closed ∷ more) text portion reads some = absurd reads
reads-more room (Handed name kept is ∷ more) text portion reads some = absurd reads

-- ---- a file that is read on

module _ {S : Type 0} (answer : S → FileCall → S → Type 0) (a b c : S) (text : List ℕ) (so_far : ByCalls answer a b (λ calls. AreReads calls text)) where
  pub given-failed : (room : ℕ) → answer b (Gave room None) c → length text ≤ file_limit → ByCalls answer a c (λ calls. IsGiven calls (Err troubles.NotRead))
  given-failed room it within = (so_far.0 ++ Gave room None ∷ [], answered-then answer a b c so_far.0 (Gave room None ∷ []) so_far.1 (answered-one answer b c (Gave room None) it), (so_far.0, room, text, refl, so_far.2, within))

  pub given-end : (room count : ℕ) (buffer : List ℕ) → 0 < room → count ≡ 0 → answer b (Gave room (Some (take count buffer))) c → length text ≤ file_limit → ByCalls answer a c (λ calls. IsGiven calls (Ok text))
  given-end room count buffer some none it within =
      let last : answer b (Gave room (Some [])) c = subst (λ (n : ℕ). answer b (Gave room (Some (take n buffer))) c) none it in
      (so_far.0 ++ Gave room (Some []) ∷ [], answered-then answer a b c so_far.0 (Gave room (Some []) ∷ []) so_far.1 (answered-one answer b c (Gave room (Some [])) last), (so_far.0, room, some, refl, so_far.2, within))

  pub given-more : (room : ℕ) (portion : List ℕ) → answer b (Gave room (Some portion)) c → (portion ≡ [] → ⊥) → ByCalls answer a c (λ calls. AreReads calls (text ++ portion))
  given-more room portion it some =
      (so_far.0 ++ Gave room (Some portion) ∷ [], answered-then answer a b c so_far.0 (Gave room (Some portion) ∷ []) so_far.1 (answered-one answer b c (Gave room (Some portion)) it), reads-more room so_far.0 text portion so_far.2 some)

pub some-portion : (count : ℕ) (portion : List ℕ) → (count ≡ 0 → ⊥) → count ≡ length portion → portion ≡ [] → ⊥
some-portion count portion some is none = some (is ∙ ap length none)

-- ---- a file that is opened, read and closed

module _ {S : Type 0} (answer : S → FileCall → S → Type 0) (a b c d : S) (name held : List ℕ) (same : held ≡ name) (is : IsUtf8 name) (opened : answer a (Opened held true) b) (closed : answer c Closed d) where
  between : (reads : List FileCall) → HaveAnswered answer b reads c → HaveAnswered answer a (Opened name true ∷ (reads ++ Closed ∷ [])) d
  between reads gave =
      (b, subst (λ (at : List ℕ). answer a (Opened at true) b) same opened, answered-then answer b c d reads (Closed ∷ []) gave (answered-one answer c d Closed closed))

  pub found-so : (read : Result (List ℕ) FileTrouble) → ByCalls answer b c (λ calls. IsGiven calls read) → ByCalls answer a d (λ calls. IsFound name calls read)
  found-so (Ok text) given = (Opened name true ∷ (given.0 ++ Closed ∷ []), between given.0 given.1, (is, given.0, refl, given.2))
  found-so (Err troubles.NotRead) given = (Opened name true ∷ (given.0 ++ Closed ∷ []), between given.0 given.1, (is, given.0, refl, given.2))
  found-so (Err troubles.TooLong) given = (Opened name true ∷ (given.0 ++ Closed ∷ []), between given.0 given.1, (is, given.0, refl, given.2))
  found-so (Err troubles.NotOpened) given = absurd given.2
  found-so (Err troubles.NotNamed) given = absurd given.2
  found-so (Err troubles.TooDeep) given = absurd given.2
  found-so (Err troubles.HasPoint) given = absurd given.2
  found-so (Err (troubles.BadSign place line)) given = absurd given.2
  found-so (Err (troubles.NoCode place)) given = absurd given.2
  found-so (Err (troubles.BadLine line)) given = absurd given.2
  found-so (Err (troubles.LowAddress line)) given = absurd given.2
  found-so (Err troubles.LongTape) given = absurd given.2
  found-so (Err troubles.NotWritten) given = absurd given.2

  pub cut-so : ByCalls answer b c (λ calls. (text : List ℕ) × AreReads calls text) → ByCalls answer a d (λ calls. IsCutOff name calls)
  cut-so gave = (Opened name true ∷ (gave.0 ++ Closed ∷ []), between gave.0 gave.1, (is, gave.0, gave.2.0, refl, gave.2.1))

pub if-ok : {T E : Type 0} (result : Result T E) (P Q : T → Type 0) → ((value : T) → P value → Q value) → IfOk result P → IfOk result Q
if-ok (Ok value) P Q so it = so value it
if-ok (Err error) P Q so it = tt

pub ok-both : {T E : Type 0} (result : Result T E) (P R : T → Type 0) (Q : Type 0) → ((value : T) → P value → Q → R value) → IfOk result P → OnOk result Q → IfOk result R
ok-both (Ok value) P R Q so one two = so value one two
ok-both (Err error) P R Q so one two = tt

pub err-always : {T E : Type 0} (result : Result T E) (P : Type 0) → P → IfErr result (λ _. P)
err-always (Ok value) P it = tt
err-always (Err error) P it = it

pub if-err : {T E : Type 0} (result : Result T E) (P Q : E → Type 0) → ((error : E) → P error → Q error) → IfErr result P → IfErr result Q
if-err (Ok value) P Q so it = tt
if-err (Err error) P Q so it = so error it

-- ---- a text that is kept

pub kept-so : {S : Type 0} (answer : S → FileCall → S → Type 0) (a b : S) (name text held : List ℕ) (kept : Bool) → held ≡ name → IsUtf8 name → answer a (Handed held text kept) b → ByCalls answer a b (λ calls. IsHanded name text calls kept)
kept-so answer a b name text held kept same is it =
    (Handed name text kept ∷ [], answered-one answer a b (Handed name text kept) (subst (λ (at : List ℕ). answer a (Handed at text kept) b) same it), inl (is, refl))
