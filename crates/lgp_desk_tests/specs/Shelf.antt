-- Serves tests only: one file that is known, and no name under which a text is kept.
use Rattle.std.specs.Prelude.{ℕ, List, Option, None, [], ◌∷◌, codes, option_map}
use Rattle.std.specs.Borrow.{Bor}
use Rattle.lgp_desk.specs.Drawers.{Drawer}

abbrev pub shelf : Drawer
shelf = record {
  files = (codes "lesson", codes "put 0000 = 1\nfoo\n") ∷ [];
  writable = [];
  left = None;
}

-- with so much left of the open one
abbrev pub drawer_of : Option (Bor (List ℕ)) → Drawer
drawer_of left = record shelf { left = option_map (λ it. it.now) left }
