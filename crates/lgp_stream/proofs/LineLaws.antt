-- What is done by lines that stand for others is what the transcript says.
use Rattle.std.proofs.Common.{◌≡◌, ℕ, zero, suc, ◌-◌, ◌==◌, Bool, true, false, cond, List, [], ◌∷◌, ◌++◌, length, take, get_or, map, refl, sym, ap, subst, ◌∙◌, arith, eqb, append_assoc, length-append}
use Rattle.std.specs.List.{AllByRecursion, concat, onto_first, slice_split}
use Rattle.std.specs.Str.Lines.{lines, lines_of_parts, strip_carriage_return}
use Rattle.std.proofs.lemmas.List.{append-nil}
use Rattle.std.proofs.Math.Seq.{get_or-append_seam, take-append_seam}
use Rattle.lgp_stream.specs.Language.{Language, state_after}
use Rattle.lgp_stream.proofs.CutLemmas.{IsCut, IsCut-feed, IsCut-lines, IsCut-none, IsLine-push}
use Rattle.lgp_stream.specs.Transcript.{AreLines, HasMeanings, IsLine, IsReportedByTranscript, Meaning, Anew, Lines, Recorded, StandForLines, after_lines, after_meaning, ended, untouched}

-- ---- a line more in a transcript

abbrev ends_with_return : List ℕ → Bool
ends_with_return line = get_or line (length line - 1) 0 == 13

last-return : (line : List ℕ) → get_or (line ++ 13 ∷ []) (length (line ++ 13 ∷ []) - 1) 0 ≡ 13
last-return line =
    let place : length (line ++ 13 ∷ []) - 1 ≡ length line = omega (arith, length-append line (13 ∷ [])) in
    rw place (get_or-append_seam line 13 [] 0)

front-return : (line : List ℕ) → take (length (line ++ 13 ∷ []) - 1) (line ++ 13 ∷ []) ≡ line
front-return line =
    let place : length (line ++ 13 ∷ []) - 1 ≡ length line = omega (arith, length-append line (13 ∷ [])) in
    rw place (take-append_seam line (13 ∷ []))

strip-return : (line : List ℕ) → strip_carriage_return (line ++ 13 ∷ []) ≡ line
strip-return line = rw (last-return _) (front-return _)

IsCut-ended : (bytes : List ℕ) (complete : List (List ℕ)) (line : List ℕ) → IsCut bytes complete → IsLine line → IsCut (bytes ++ ended line) (complete ++ line ∷ [])
unfolding ended
IsCut-ended bytes complete line cut free = by_return (ends_with_return line) refl where
  by_return : (ends : Bool) → ends_with_return line ≡ ends → IsCut (bytes ++ (line ++ cond ends (13 ∷ 10 ∷ []) (10 ∷ []))) (complete ++ line ∷ [])
  by_return false e =
      let same : strip_carriage_return line ≡ line = rw e refl in
      rw same at (IsCut-feed bytes complete line cut free)
  by_return true e =
      rw (append_assoc line (13 ∷ []) (10 ∷ []), strip-return line) at (IsCut-feed bytes complete (line ++ 13 ∷ []) cut (IsLine-push line 13 free refl))

-- ---- where lines of the other language lead

-- the transcript is complete lines, which lead to the state reached
pub record IsReported {S : Type 0} (language : Language S) (opening state : S) (transcript : List ℕ) : Type 0 where
  pub said : List (List ℕ)
  pub cut : IsCut transcript said
  pub stands : state ≡ state_after language opening said

pub IsReported-none : {S : Type 0} (language : Language S) (opening : S) → IsReported language opening opening []
IsReported-none language opening = record { said = []; cut = IsCut-none; stands = refl }

state_after-last : {S : Type 0} (language : Language S) (s : S) (said : List (List ℕ)) (line : List ℕ) → state_after language s (said ++ line ∷ []) ≡ language.after (state_after language s said) line
state_after-last language s [] line = refl
state_after-last language s (first ∷ said) line = state_after-last language (language.after s first) said line

IsReported-line : {S : Type 0} (language : Language S) (opening state : S) (transcript line : List ℕ) → IsReported language opening state transcript → IsLine line
    → IsReported language opening (language.after state line) (transcript ++ ended line)
IsReported-line {S} language opening state transcript line reported free = record {
  said = reported.said ++ line ∷ [];
  cut = IsCut-ended transcript reported.said line reported.cut free;
  stands = grind (arith, state_after-last);
}

pub IsReported-lines : {S : Type 0} (language : Language S) (opening state : S) (transcript : List ℕ) (lines : List (List ℕ)) → IsReported language opening state transcript → AllByRecursion IsLine lines
    → IsReported language opening (state_after language state lines) (transcript ++ concat (map ended lines))
IsReported-lines language opening state transcript [] reported free = rw (append-nil transcript) reported
IsReported-lines language opening state transcript (line ∷ lines) reported free =
    rw (append_assoc transcript (ended _) (concat (map ended _))) at
    (IsReported-lines language opening (language.after state line) (transcript ++ ended _) lines (IsReported-line language opening state transcript line reported free.0) free.1)

pub IsReported-meaning : {S : Type 0} (language : Language S) (opening : S) (r : Recorded S) (meaning : Meaning) → IsReported language opening r.state r.transcript → AreLines meaning
    → IsReported language opening (after_meaning language opening r meaning).state (after_meaning language opening r meaning).transcript
unfolding after_lines
IsReported-meaning language opening r (Lines lines) reported free = IsReported-lines language opening r.state r.transcript lines reported free
IsReported-meaning language opening r (Anew lines) reported free = IsReported-lines language opening opening [] lines (IsReported-none language opening) free

IsReported-text : {S : Type 0} (language : Language S) (opening : S) (meaning : Recorded S → List ℕ → Meaning) (typed : Language (Recorded S)) → HasMeanings language opening meaning typed → StandForLines meaning
    → (r : Recorded S) (lines : List (List ℕ)) → IsReported language opening r.state r.transcript → AllByRecursion IsLine lines
    → IsReported language opening (state_after typed r lines).state (state_after typed r lines).transcript
IsReported-text language opening meaning typed has stand r [] reported free = reported
IsReported-text {S} language opening meaning typed has stand r (line ∷ lines) reported free =
    IsReported-text language opening meaning typed has stand (typed.after r line) lines
    (subst (λ (next : Recorded S). IsReported language opening next.state next.transcript) (sym (has r line))
    (IsReported-meaning language opening r (meaning r line) reported (stand r line free.0)))
    free.1

-- ---- the lines of a text

free-take : (n : ℕ) (line : List ℕ) → IsLine line → IsLine (take n line)
free-take zero line free = tt
free-take (suc n) [] free = tt
free-take (suc n) (b ∷ line) free = (free.0, free-take n _ free.1)

free-parts : (bytes : List ℕ) → AllByRecursion IsLine (slice_split (λ byte. eqb byte 10) bytes)
free-parts [] = (tt, tt)
free-parts (b ∷ bytes) = by_feed (eqb b 10) refl (slice_split (λ byte. eqb byte 10) bytes) (free-parts bytes) where
  by_feed : (feed : Bool) → eqb b 10 ≡ feed → (rest : List (List ℕ)) → AllByRecursion IsLine rest → AllByRecursion IsLine (cond feed ([] ∷ rest) (onto_first b rest))
  by_feed true e rest free = (tt, free)
  by_feed false e [] free = ((e, tt), tt)
  by_feed false e (first ∷ more) free = ((e, free.0), free.1)

free-strip : (line : List ℕ) → IsLine line → IsLine (strip_carriage_return line)
free-strip line free = by_return (ends_with_return line) where
  by_return : (ends : Bool) → IsLine (cond ends (take (length line - 1) line) line)
  by_return true = free-take _ _ free
  by_return false = free

free-last : (line : List ℕ) (empty : Bool) → IsLine line → AllByRecursion IsLine (cond empty [] (line ∷ []))
free-last line true free = tt
free-last line false free = (free, tt)

free-lines : (parts : List (List ℕ)) → AllByRecursion IsLine parts → AllByRecursion IsLine (lines_of_parts parts)
free-lines [] free = tt
free-lines (line ∷ []) free = free-last _ _ free.0
free-lines (line ∷ next ∷ more) free = (free-strip line free.0, free-lines (next ∷ more) free.1)

pub lines_are_lines : (text : List ℕ) → AllByRecursion IsLine (lines text)
lines_are_lines text = free-lines (slice_split (λ byte. eqb byte 10) text) (free-parts text)

-- ---- together

pub IsReported-all : {S : Type 0} (language : Language S) (opening : S) (r : Recorded S) → IsReported language opening r.state r.transcript → IsReportedByTranscript language opening r
IsReported-all {S} language opening r reported =
    reported.stands ∙ ap (λ (said : List (List ℕ)). state_after language opening said) (sym (IsCut-lines r.transcript reported.said reported.cut))

pub reported_by_transcript : {S : Type 0} (language : Language S) (opening : S) (meaning : Recorded S → List ℕ → Meaning) (typed : Language (Recorded S)) → HasMeanings language opening meaning typed
    → StandForLines meaning → (text : List ℕ) → IsReportedByTranscript language opening (state_after typed (untouched opening) (lines text))
reported_by_transcript language opening meaning typed has stand text =
    IsReported-all language opening (state_after typed (untouched opening) (lines text))
    (IsReported-text language opening meaning typed has stand (untouched opening) (lines text) (IsReported-none language opening) (lines_are_lines text))
