-- The lines that are left of a file.
use Rattle.std.proofs.Common.{◌≡◌, ℕ, ◌+◌, ◌-◌, ◌<◌, ◌≤◌, Option, Some, List, [], ◌++◌, length, take, drop, take-append-drop, sym, ap, subst, ◌∙◌, arith}
use Rattle.std.specs.Str.Lines.{lines}
use Rattle.std.proofs.Math.Seq.{drop-append-add}
use Rattle.std.proofs.lemmas.List.{length-drop, length-take-le}
use Rattle.lgp_stream.specs.KeptLine.{IsFirstLine, Kept}
use Rattle.std.specs.Option.{option_map_or}
use Rattle.lgp_desk.specs.Desk.{Opened, Seat, note_at}
use Rattle.lgp_desk.specs.Troubles.{line_note}
use Rattle.lgp_desk.specs.OpenFileInside.{HasNext, HasNextOf, IsNextAt}

drop-drop : (n m : ℕ) (xs : List ℕ) → n ≤ length xs → drop m (drop n xs) ≡ drop (n + m) xs
drop-drop n m xs within =
    let parts : take n xs ++ drop n xs ≡ xs = take-append-drop n xs in
    let front : length (take n xs) ≡ n = length-take-le n xs within in
    sym (drop-append-add (take n xs) (drop n xs) m) ∙ (ap (λ k. drop (k + m) (take n xs ++ drop n xs)) front ∙ ap (λ all. drop (n + m) all) parts)

-- the lines after the first one of those that are left
pub left-after : (items end rest : List ℕ) (n left : ℕ) (kept : Kept) → length items ≡ n → left ≤ n → end ≡ drop (n - left) items → IsFirstLine end kept rest → length rest < length end
    → lines (drop (n - length rest) items) ≡ lines rest
left-after items end rest n left kept size within is first shorter =
    let all : length end ≡ left = ap length is ∙ (length-drop (n - left) items ∙ omega (arith, size, within)) in
    let less : length rest < left = omega (arith, all, shorter) in
    let same : n - left + (length end - length rest) ≡ n - length rest = omega (arith, all, less, within) in
    let after : drop (length end - length rest) end ≡ drop (n - length rest) items =
    ap (λ (at : List ℕ). drop (length end - length rest) at) is ∙ (drop-drop (n - left) (length end - length rest) items (omega (arith, size)) ∙ ap (λ m. drop m items) same) in
    ap lines (sym (first.rest_is ∙ after))

pub opened-same : (a b : Opened) → a.name ≡ b.name → a.number ≡ b.number → a.left ≡ b.left → a ≡ b
opened-same a b name number left = λ i. record { name = name i; number = number i; left = left i }

-- the same of the file whose lines are typed at a desk
pub next-at : (before after : Seat) (file later : Opened) (next : Option Kept) → before.inner ≡ Some file → HasNext file later next → after ≡ record before { inner = Some later } → HasNextOf before after next
next-at before after file later next is has same = subst (λ (inner : Option Opened). IsNextAt inner before after next) (sym is) (later, has, same)

pub note-of : (seat : Seat) (file : Opened) → seat.inner ≡ Some file → line_note file.number file.name ≡ note_at seat
note-of seat file is = ap (λ (inner : Option Opened). option_map_or (λ (it : Opened). line_note it.number it.name) inner []) (sym is)
