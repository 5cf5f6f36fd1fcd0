-- What a desk has not wished for changes nothing.
use Rattle.std.proofs.Common.{◌≡◌, ℕ, Bool, true, false, not, ◌&&◌, if◌then◌else◌, is_none, is_some, Option, Some, None, Result, List, refl, ap}
use Rattle.std.specs.Option.{option_map_or}
use Rattle.lgp_desk.specs.Desk.{First, Found, Kept, Onward, Opened, Seat, Told, Typed, Wanted, file_wish, first_named, found_said, is_keep, kept_said, line_said, nothing, onward_said, said_to, wish_at}
use Rattle.lgp_desk.specs.Sessions.{is_wished}
use Rattle.lgp_desk.specs.declared.files.FileTrouble.{FileTrouble}
use Rattle.lgp_desk.specs.declared.wish.Wish.{Wish}
use Rattle.lgp_desk.specs.declared.wish.Wish.TheVariants as wishes
use Rattle.lgp_desk.specs.declared.request.Work.{Work}
use Rattle.lgp_desk.specs.declared.request.Work.TheVariants as works

-- what a desk wishes for, by the file that it wishes for, that whose lines are typed, and whether it was left
abbrev wish_by : Option Wanted → Option Opened → Bool → Wish
wish_by wanted inner left = option_map_or (λ file. file_wish file.work) wanted (if is_some inner then wishes.Onward else (if left then wishes.Nothing else wishes.Line))

no-line : (wanted : Option Wanted) (inner : Option Opened) (left : Bool) (line : List ℕ) → is_wished (wish_by wanted inner left) (Typed line) ≡ false → (is_none wanted && (is_none inner && not left)) ≡ false
no-line (Some file) inner left line other = refl
no-line None (Some file) left line other = refl
no-line None None true line other = refl
no-line None None false line other = absurd (cc)

no-name : (wanted : Option Wanted) (inner : Option Opened) (left : Bool) (name : List ℕ) → is_wished (wish_by wanted inner left) (First name) ≡ false → (is_none wanted && (is_none inner && not left)) ≡ false
no-name (Some file) inner left name other = refl
no-name None (Some file) left name other = refl
no-name None None true name other = refl
no-name None None false name other = absurd (cc)

not-onward : (seat : Seat) (wanted : Option Wanted) (inner : Option Opened) → is_wished (wish_by wanted inner seat.has_left) Onward ≡ false
    → (if is_some wanted then nothing seat else onward_said seat inner) ≡ nothing seat
not-onward seat (Some file) inner other = refl
not-onward seat None None other = refl
not-onward seat None (Some file) other = absurd (cc)

read-work : (work : Work) (read : Result (List ℕ) FileTrouble) → is_wished (file_wish work) (Found read) ≡ false → is_keep work ≡ true
read-work (works.Keep made) read other = refl
read-work works.Lines read other = absurd (cc)
read-work works.Source read other = absurd (cc)
read-work (works.Tape form) read other = absurd (cc)
read-work (works.Restore form) read other = absurd (cc)

keep-work : (work : Work) (kept : Bool) → is_wished (file_wish work) (Kept kept) ≡ false → is_keep work ≡ false
keep-work (works.Keep made) kept other = absurd (cc)
keep-work works.Lines kept other = refl
keep-work works.Source kept other = refl
keep-work (works.Tape form) kept other = refl
keep-work (works.Restore form) kept other = refl

not-found : (seat : Seat) (wanted : Option Wanted) (inner : Option Opened) (read : Result (List ℕ) FileTrouble) → is_wished (wish_by wanted inner seat.has_left) (Found read) ≡ false → found_said seat wanted read ≡ nothing seat
not-found seat None inner read other = refl
not-found seat (Some file) inner read other = rw (read-work file.work read other) refl

not-kept : (seat : Seat) (wanted : Option Wanted) (inner : Option Opened) (kept : Bool) → is_wished (wish_by wanted inner seat.has_left) (Kept kept) ≡ false → kept_said seat wanted kept ≡ nothing seat
not-kept seat None inner kept other = refl
not-kept seat (Some file) inner kept other = rw (keep-work file.work kept other) refl

pub unwished : (seat : Seat) (told : Told) → is_wished (wish_at seat) told ≡ false → said_to seat told ≡ nothing seat
unfolding said_to wish_at
unwished seat (Typed line) other = ap (λ (takes : Bool). if takes then line_said seat line else nothing seat) (no-line seat.wanted seat.inner seat.has_left line other)
unwished seat (First name) other = ap (λ (takes : Bool). if takes then first_named seat name else nothing seat) (no-name seat.wanted seat.inner seat.has_left name other)
unwished seat Onward other = not-onward seat seat.wanted seat.inner other
unwished seat (Found read) other = not-found seat seat.wanted seat.inner read other
unwished seat (Kept kept) other = not-kept seat seat.wanted seat.inner kept other
