-- The lines of a source, which the monitor answers one after another.
use Rattle.std.proofs.Common.{◌≡◌, ℕ, List, [], ◌∷◌, ◌++◌, codes}
use Rattle.lgp_desk.specs.Desk.{Said, Seat, all_answered}

-- this was said so far, and what is said to these lines and to the point is the rest of the whole
pub record IsLeft (note text : List ℕ) (now : Seat) (left : List (List ℕ)) (whole : Said) : Type 0 where
  pub text_is : text ++ (all_answered note now (left ++ codes "." ∷ [])).text ≡ whole.text
  pub seat_is : (all_answered note now (left ++ codes "." ∷ [])).seat ≡ whole.seat
