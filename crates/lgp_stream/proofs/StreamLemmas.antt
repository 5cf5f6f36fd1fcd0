-- The replies to the lines of a text, and what is written of them.
use Rattle.std.proofs.Common.{◌≡◌, ℕ, ◌+◌, ◌≤◌, true, cond, min, Option, Some, None, IfSome, List, [], ◌∷◌, ◌++◌, length, take, count_by, refl, sym, ap, ◌∙◌, append_assoc, length-append, add_comm, arith}
use Rattle.std.specs.List.{concat}
use Rattle.std.specs.Io.KnownBytes.{Appends, Consumes, IsAtEnd}
use Rattle.std.specs.Str.Lines.{lines, strip_carriage_return}
use Rattle.std.proofs.lemmas.List.{append-nil, take-append-le}
use Rattle.std.proofs.lemmas.List.Folds.{concat-append}
use Rattle.std.proofs.lemmas.List.Sums.{sum_by-append}
use Rattle.std.proofs.Math.Seq.{take-append-add}
use Rattle.lgp_stream.specs.AnsweringInside.{HasAnswered, HasWritten}
use Rattle.lgp_stream.specs.Language.{HasStopped, HasWrittenBytes, HasWrittenReplies, Language, StandsWritten, complete_lines, count_limit, fault_after, is_question, question_count, replies_to, state_after, text_replies}
use Rattle.lgp_stream.specs.LineReading.{IsBrokenLine, left_of}
use Rattle.lgp_stream.specs.OpenLineInside.{Open}
use Rattle.lgp_stream.specs.ReadingInside.{HasTaken}
use Rattle.lgp_stream.specs.declared.stream.StreamFault.{StreamFault}
use Rattle.lgp_stream.specs.declared.stream.StreamFault.TheVariants.{Read, Write, Memory}
use Rattle.lgp_stream.specs.declared.tally.Tally.{Tally}
use Rattle.lgp_stream.proofs.CutLemmas.{IsCut, IsCut-complete, IsCut-feed}
use Rattle.lgp_stream.proofs.KnownLemmas.{Appends-none, Appends-trans, Consumes-trans}

-- lines one after another
pub replies_to-append : {S : Type 0} (language : Language S) (s : S) (front more : List (List ℕ)) → replies_to language s (front ++ more) ≡ replies_to language s front ++ replies_to language (state_after language s front) more
replies_to-append language s [] more = refl
replies_to-append language s (line ∷ front) more = grind (arith, replies_to-append language (language.after s line) front more)

pub state_after-append : {S : Type 0} (language : Language S) (s : S) (front more : List (List ℕ)) → state_after language s (front ++ more) ≡ state_after language (state_after language s front) more
state_after-append language s [] more = refl
state_after-append language s (line ∷ front) more = state_after-append language (language.after s line) front more

IfSome-weaker : (o : Option (List ℕ)) (P Q : List ℕ → Type 0) → ((text : List ℕ) → P text → Q text) → IfSome o P → IfSome o Q
IfSome-weaker None P Q weaker p = tt
IfSome-weaker (Some text) P Q weaker p = weaker text p

-- ---- replies that are written one after another

-- a count as far as 64 bits count, with more
pub counted-more : (count more total limit : ℕ) → count ≡ min total limit → min (count + more) limit ≡ min (total + more) limit
counted-more count more total limit e = omega arith

concat-last : (replies : List (List ℕ)) (reply : List ℕ) → concat (replies ++ reply ∷ []) ≡ concat replies ++ reply
concat-last replies reply = concat-append replies (reply ∷ []) ∙ ap (λ (more : List ℕ). concat replies ++ more) (append-nil reply)

count_by-append : (xs ys : List (List ℕ)) → count_by is_question (xs ++ ys) ≡ count_by is_question xs + count_by is_question ys
count_by-append xs ys = sum_by-append _ xs ys

count-last : (replies : List (List ℕ)) (reply : List ℕ) → count_by is_question (replies ++ reply ∷ []) ≡ count_by is_question replies + cond (is_question reply) 1 0
count-last replies reply = grind (arith, count_by-append)

-- no reply yet
-- one reply more
pub HasWritten-last : (w₀ w₁ w₂ : Option (List ℕ)) (replies : List (List ℕ)) (reply : List ℕ) (before after : Tally) → HasWritten w₀ w₁ replies before → Appends w₁ w₂ reply
    → after.questions ≡ min (before.questions + cond (is_question reply) 1 0) count_limit → after.bytes ≡ min (before.bytes + length reply) count_limit
    → HasWritten w₀ w₂ (replies ++ reply ∷ []) after
HasWritten-last w₀ w₁ w₂ replies reply before after written sent questions bytes = record {
  sent = rw (concat-last _ _) (Appends-trans w₀ w₁ w₂ (concat replies) reply written.sent sent);
  questions = questions ∙ (counted-more _ _ _ _ written.questions
      ∙ ap (λ (n : ℕ). min n count_limit) (sym (count-last replies reply)));
  bytes = bytes ∙ (counted-more _ _ _ _ written.bytes
      ∙ ap (λ (n : ℕ). min n count_limit) (sym (ap length (concat-last replies reply) ∙ length-append (concat replies) reply)));
}

-- a part of one reply more
pub HasStopped-last : (w₀ w₁ w₂ : Option (List ℕ)) (replies : List (List ℕ)) (reply : List ℕ) (before : Tally) (taken count : ℕ) → HasWritten w₀ w₁ replies before
    → Appends w₁ w₂ (take taken reply) → taken ≤ length reply → count ≡ min (before.bytes + taken) count_limit
    → HasStopped (Write count) w₀ w₂ (replies ++ reply ∷ [])
HasStopped-last w₀ w₁ w₂ replies reply before taken count written sent within counted = record {
  taken = length (concat replies) + taken;
  within = rw (concat-last _ _, length-append (concat replies) reply) (omega (arith, within));
  sent = rw (concat-last _ _, take-append-add (concat replies) reply taken) (Appends-trans w₀ w₁ w₂ (concat replies) (take taken reply) written.sent sent);
  counted = counted ∙ counted-more _ _ _ _ written.bytes;
}

-- the same among more replies
pub HasStopped-more : (fault : StreamFault) (w₀ w : Option (List ℕ)) (replies more : List (List ℕ)) → HasStopped fault w₀ w replies → HasStopped fault w₀ w (replies ++ more)
HasStopped-more Read w₀ w replies more stop = stop
HasStopped-more (Write count) w₀ w replies more stop = record {
  taken = stop.taken;
  within = rw (concat-append replies more, length-append (concat replies) (concat more)) (omega (arith, stop.within));
  sent = rw (concat-append replies more, take-append-le stop.taken (concat replies) (concat more) stop.within) stop.sent;
  counted = stop.counted;
}
HasStopped-more Memory w₀ w replies more stop = record {
  first = stop.first;
  lacking = stop.lacking;
  rest = stop.rest ++ more;
  joined = ap (λ (all : List (List ℕ)). all ++ more) stop.joined ∙ append_assoc stop.first (stop.lacking ∷ stop.rest) more;
  sent = stop.sent;
}

-- no memory for a reply after these
pub HasStopped-memory : (w₀ w : Option (List ℕ)) (replies : List (List ℕ)) (reply : List ℕ) (rest : List (List ℕ)) (tally : Tally) → HasWritten w₀ w replies tally → HasStopped Memory w₀ w (replies ++ reply ∷ rest)
HasStopped-memory w₀ w replies reply rest tally written = record { first = replies; lacking = reply; rest = rest; joined = refl; sent = written.sent }

-- ---- lines that are answered

module _ {S : Type 0} (language : Language S) (s : S) where
  replies_to-last : (state : S) (lines : List (List ℕ)) (line : List ℕ) → state ≡ state_after language s lines
      → replies_to language s lines ++ language.reply state line ∷ [] ≡ replies_to language s (lines ++ line ∷ [])
  replies_to-last state lines line e =
      ap (λ (at : S). replies_to language s lines ++ language.reply at line ∷ []) e ∙ sym (replies_to-append language s lines (line ∷ []))

  -- one line more, and a fault at one line more
  pub HasAnswered-last : (w₀ w₁ w₂ : Option (List ℕ)) (lines : List (List ℕ)) (line : List ℕ) (before after : S) (tally tally₂ : Tally)
      → HasAnswered language s w₀ w₁ lines before tally → after ≡ language.after before line
      → HasWritten w₀ w₂ (replies_to language s lines ++ language.reply before line ∷ []) tally₂
      → HasAnswered language s w₀ w₂ (lines ++ line ∷ []) after tally₂
  HasAnswered-last w₀ w₁ w₂ lines line before after tally tally₂ answered is_after written = record {
    state_at = is_after ∙ (ap (λ (state : S). language.after state line) answered.state_at ∙ sym (state_after-append language s lines (line ∷ [])));
    written = rw (replies_to-last _ _ _ answered.state_at) at written;
  }

  pub HasStopped-answered : (fault : StreamFault) (w₀ w₁ w₂ : Option (List ℕ)) (lines : List (List ℕ)) (line : List ℕ) (before : S) (tally : Tally)
      → HasAnswered language s w₀ w₁ lines before tally → HasStopped fault w₀ w₂ (replies_to language s lines ++ language.reply before line ∷ [])
      → HasStopped fault w₀ w₂ (replies_to language s (lines ++ line ∷ []))
  HasStopped-answered fault w₀ w₁ w₂ lines line before tally answered stop = rw (replies_to-last _ _ _ answered.state_at) at stop

  -- ---- a text whose lines are answered

  text_replies-front : (text : List ℕ) (front more : List (List ℕ)) → lines text ≡ front ++ more
      → text_replies language s text ≡ replies_to language s front ++ (replies_to language (state_after language s front) more ++ language.closing (state_after language s (front ++ more)) ∷ [])
  unfolding text_replies
  text_replies-front text front more e =
      let end : List (List ℕ) = language.closing (state_after language s (front ++ more)) ∷ [] in
      ap (λ (all : List (List ℕ)). replies_to language s all ++ language.closing (state_after language s all) ∷ []) e
      ∙ (ap (λ (replies : List (List ℕ)). replies ++ end) (replies_to-append language s front more)
      ∙ append_assoc (replies_to language s front) (replies_to language (state_after language s front) more) end)

  text-stands : (fault : StreamFault) (text : List ℕ) (left w₀ w : Option (List ℕ)) → HasStopped fault w₀ w (text_replies language s text) → StandsWritten [] language s fault text left w₀ w
  text-stands Read text left w₀ w stop = absurd stop
  text-stands (Write count) text left w₀ w stop = stop
  text-stands Memory text left w₀ w stop = stop

  -- a fault at the first lines of a text, and at its end
  pub lines-stand : (fault : StreamFault) (text : List ℕ) (front more : List (List ℕ)) (left w₀ w : Option (List ℕ)) → lines text ≡ front ++ more → HasStopped fault w₀ w (replies_to language s front)
      → StandsWritten [] language s fault text left w₀ w
  lines-stand fault text front more left w₀ w e stop =
      text-stands fault text left w₀ w (rw (text_replies-front text front more e)
      (HasStopped-more fault w₀ w (replies_to language s front) (replies_to language (state_after language s front) more ++ language.closing (state_after language s (front ++ more)) ∷ []) stop))

  pub all-stand : (fault : StreamFault) (before left w₀ w : Option (List ℕ)) (all : List (List ℕ)) → IfSome before (λ text. lines text ≡ all) → HasStopped fault w₀ w (replies_to language s all)
      → IfSome before (λ text. StandsWritten [] language s fault text left w₀ w)
  all-stand fault None left w₀ w all e stop = tt
  all-stand fault (Some text) left w₀ w all e stop = lines-stand fault text all [] left w₀ w (e ∙ sym (append-nil all)) stop

  pub end-stands : (fault : StreamFault) (before left w₀ w : Option (List ℕ)) (all : List (List ℕ)) → IfSome before (λ text. lines text ≡ all)
      → HasStopped fault w₀ w (replies_to language s all ++ language.closing (state_after language s all) ∷ []) → IfSome before (λ text. StandsWritten [] language s fault text left w₀ w)
  unfolding text_replies
  end-stands fault None left w₀ w all e stop = tt
  end-stands fault (Some text) left w₀ w all e stop = text-stands fault text left w₀ w (rw e stop)

  -- all was written, and counted
  pub text-sent : (before w₀ w : Option (List ℕ)) (all : List (List ℕ)) (tally : Tally) → IfSome before (λ text. lines text ≡ all)
      → HasWritten w₀ w (replies_to language s all ++ language.closing (state_after language s all) ∷ []) tally → IfSome before (λ text. Appends w₀ w (concat (text_replies language s text)))
  unfolding text_replies
  text-sent None w₀ w all tally e written = tt
  text-sent (Some text) w₀ w all tally e written = rw e written.sent

  pub text-counted : (before w₀ w : Option (List ℕ)) (all : List (List ℕ)) (tally : Tally) → IfSome before (λ text. lines text ≡ all)
      → HasWritten w₀ w (replies_to language s all ++ language.closing (state_after language s all) ∷ []) tally → IfSome before (λ text. tally.questions ≡ question_count (text_replies language s text))
  unfolding text_replies
  text-counted None w₀ w all tally e written = tt
  text-counted (Some text) w₀ w all tally e written = rw e written.questions

  -- ---- a text that is read

  -- the complete lines of a part were answered
  pub record IsAnswering (before now w₀ w : Option (List ℕ)) (state : S) (tally : Tally) : Type 0 where
    pub part : List ℕ
    pub complete : List (List ℕ)
    pub consumed : Consumes before now part
    pub is_cut : IsCut part complete
    pub answered : HasAnswered language s w₀ w complete state tally

  pub answering-more : (before now next w₀ w₁ w₂ : Option (List ℕ)) (state state₂ : S) (line : Open) (tally tally₂ : Tally) (answering : IsAnswering before now w₀ w₁ state tally)
      → (taken : HasTaken now next line true) → HasAnswered language s w₀ w₂ (answering.complete ++ strip_carriage_return taken.taken ∷ []) state₂ tally₂
      → IsAnswering before next w₀ w₂ state₂ tally₂
  answering-more before now next w₀ w₁ w₂ state state₂ line tally tally₂ answering taken answered = record {
    part = answering.part ++ (taken.taken ++ 10 ∷ []);
    complete = answering.complete ++ strip_carriage_return taken.taken ∷ [];
    consumed = Consumes-trans before now next answering.part (taken.taken ++ 10 ∷ []) answering.consumed taken.consumed;
    is_cut = IsCut-feed answering.part answering.complete taken.taken answering.is_cut taken.is_line;
    answered = answered;
  }

  -- a fault of reading, and at a line
  pub answering-read : (before now next w₀ w : Option (List ℕ)) (state : S) (tally : Tally) → IsAnswering before now w₀ w state tally → IsBrokenLine now next
      → IfSome before (λ text. StandsWritten [] language s Read text next w₀ w)
  answering-read None now next w₀ w state tally answering broken = tt
  answering-read (Some text) now next w₀ w state tally answering broken = record {
    part = answering.part ++ broken.0;
    consumed = Consumes-trans (Some text) now next answering.part broken.0 answering.consumed broken.2;
    sent = rw (IsCut-complete answering.part answering.complete broken.0 answering.is_cut broken.1) answering.answered.written.sent;
  }

  part-stands : (fault : StreamFault) (before next left w₀ w : Option (List ℕ)) (part : List ℕ) (complete : List (List ℕ)) → Consumes before next part → IsCut part complete
      → HasStopped fault w₀ w (replies_to language s complete) → IfSome before (λ text. StandsWritten [] language s fault text left w₀ w)
  part-stands fault None next left w₀ w part complete consumed is_cut stop = tt
  part-stands fault (Some text) None left w₀ w part complete consumed is_cut stop = absurd consumed
  part-stands fault (Some text) (Some rest) left w₀ w part complete consumed is_cut stop = lines-stand fault text complete (lines rest) left w₀ w (ap lines consumed ∙ is_cut.cut rest) stop

  pub answering-stopped : (fault : StreamFault) (before now next left w₀ w₁ w₂ : Option (List ℕ)) (state : S) (line : Open) (tally : Tally) (answering : IsAnswering before now w₀ w₁ state tally)
      → (taken : HasTaken now next line true) → HasStopped fault w₀ w₂ (replies_to language s (answering.complete ++ strip_carriage_return taken.taken ∷ []))
      → IfSome before (λ text. StandsWritten [] language s fault text left w₀ w₂)
  answering-stopped fault before now next left w₀ w₁ w₂ state line tally answering taken stop =
      part-stands fault before next left w₀ w₂ (answering.part ++ (taken.taken ++ 10 ∷ [])) (answering.complete ++ strip_carriage_return taken.taken ∷ [])
      (Consumes-trans before now next answering.part (taken.taken ++ 10 ∷ []) answering.consumed taken.consumed)
      (IsCut-feed answering.part answering.complete taken.taken answering.is_cut taken.is_line) stop

-- nothing is left
pub left-end : (unread : List ℕ) (remaining : Option (List ℕ)) → IsAtEnd (left_of unread remaining) → IsAtEnd remaining
left-end unread None end = tt
left-end [] (Some text) end = end
left-end (byte ∷ unread) (Some text) end = cc

-- nothing was written yet
lacks_first : (w : Option (List ℕ)) (replies : List (List ℕ)) (last : List ℕ) → HasWrittenReplies w w (replies ++ last ∷ [])
lacks_first w [] last = record { first = []; lacking = last; rest = []; joined = refl; sent = Appends-none w }
lacks_first w (reply ∷ more) last = record { first = []; lacking = reply; rest = more ++ last ∷ []; joined = refl; sent = Appends-none w }

pub HasWrittenReplies-none : {S : Type 0} (language : Language S) (s : S) (w : Option (List ℕ)) (text : List ℕ) → HasWrittenReplies w w (text_replies language s text)
unfolding text_replies
HasWrittenReplies-none language s w text = lacks_first w _ _

pub StandsWritten-none : {S : Type 0} (language : Language S) (s : S) (r₀ r w : Option (List ℕ)) → IfSome r₀ (λ text. StandsWritten [] language s Memory text r w w)
StandsWritten-none language s None r w = tt
StandsWritten-none language s (Some text) r w = HasWrittenReplies-none language s w text

-- a text of which a front was written
pub HasWrittenBytes-one : (w₀ w : Option (List ℕ)) (text : List ℕ) (taken : ℕ) → Appends w₀ w (take taken text) → taken ≤ length text → taken ≤ count_limit → HasWrittenBytes taken w₀ w (text ∷ [])
HasWrittenBytes-one w₀ w text taken sent within small = record {
  taken = taken;
  within = rw (append-nil text) within;
  sent = rw (append-nil text) sent;
  counted = omega arith;
}

-- after a text that was written whole
StandsWritten-after : {S : Type 0} (language : Language S) (s : S) (fault : StreamFault) (heading text : List ℕ) (left w₀ w₁ w : Option (List ℕ)) → Appends w₀ w₁ heading
    → StandsWritten [] language s fault text left w₁ w → StandsWritten (heading ∷ []) language s (fault_after (length heading) fault) text left w₀ w
StandsWritten-after language s Read heading text left w₀ w₁ w written stands = record {
  part = stands.part;
  consumed = stands.consumed;
  sent = Appends-trans w₀ w₁ w heading (concat (replies_to language s (complete_lines stands.part))) written stands.sent;
}
StandsWritten-after language s (Write count) heading text left w₀ w₁ w written stands =
    record {
      taken = length heading + stands.taken;
      within = rw (length-append heading (concat (text_replies language s text))) (omega (arith, stands.within));
      sent = rw (take-append-add heading (concat (text_replies language s text)) stands.taken) (Appends-trans w₀ w₁ w heading (take stands.taken (concat (text_replies language s text))) written stands.sent);
      counted = counted-more _ _ _ _ stands.counted ∙ ap (λ (n : ℕ). min n count_limit) (add_comm stands.taken (length heading));
    }
StandsWritten-after language s Memory heading text left w₀ w₁ w written stands = record {
  first = heading ∷ stands.first;
  lacking = stands.lacking;
  rest = stands.rest;
  joined = ap (λ (replies : List (List ℕ)). heading ∷ replies) stands.joined;
  sent = Appends-trans w₀ w₁ w heading (concat stands.first) written stands.sent;
}

pub StandsWritten-part : {S : Type 0} (language : Language S) (s : S) (fault : StreamFault) (heading : List ℕ) (r₀ r w₀ w₁ w : Option (List ℕ)) → Appends w₀ w₁ heading
    → IfSome r₀ (λ text. StandsWritten [] language s fault text r w₁ w) → IfSome r₀ (λ text. StandsWritten (heading ∷ []) language s (fault_after (length heading) fault) text r w₀ w)
StandsWritten-part language s fault heading r₀ r w₀ w₁ w written stands =
    IfSome-weaker r₀ (λ text. StandsWritten [] language s fault text r w₁ w) (λ text. StandsWritten (heading ∷ []) language s (fault_after (length heading) fault) text r w₀ w)
    (λ text. StandsWritten-after language s fault heading text r w₀ w₁ w written) stands

-- a fault while a text in front was written, and no memory for it
StandsWritten-front : {S : Type 0} (language : Language S) (s : S) (fault : StreamFault) (heading text : List ℕ) (left w₀ w : Option (List ℕ)) → HasStopped fault w₀ w (heading ∷ [])
    → StandsWritten (heading ∷ []) language s fault text left w₀ w
StandsWritten-front language s Read heading text left w₀ w stop = absurd stop
StandsWritten-front language s (Write count) heading text left w₀ w stop = HasStopped-more (Write count) w₀ w (heading ∷ []) (text_replies language s text) stop
StandsWritten-front language s Memory heading text left w₀ w stop = HasStopped-more Memory w₀ w (heading ∷ []) (text_replies language s text) stop

pub StandsWritten-heading : {S : Type 0} (language : Language S) (s : S) (fault : StreamFault) (heading : List ℕ) (r₀ r w₀ w : Option (List ℕ)) → HasStopped fault w₀ w (heading ∷ [])
    → IfSome r₀ (λ text. StandsWritten (heading ∷ []) language s fault text r w₀ w)
StandsWritten-heading language s fault heading None r w₀ w stop = tt
StandsWritten-heading language s fault heading (Some text) r w₀ w stop = StandsWritten-front language s fault heading text r w₀ w stop

pub StandsWritten-unnamed : {S : Type 0} (language : Language S) (s : S) (heading : List ℕ) (r₀ r w : Option (List ℕ)) → IfSome r₀ (λ text. StandsWritten (heading ∷ []) language s Memory text r w w)
StandsWritten-unnamed language s heading None r w = tt
StandsWritten-unnamed language s heading (Some text) r w = record { first = []; lacking = heading; rest = text_replies language s text; joined = refl; sent = Appends-none w }
