-- Serves proofs only: the names that a map of borrowed texts shows.
use Rattle.std.specs.Prelude.{ℕ, List, map}
use Rattle.std.specs.Borrow.{Bor}
use Rattle.lgp_assembler.specs.Parts.{NameList}

abbrev pub name_seen : Bor (List ℕ) × ℕ → List ℕ × ℕ
name_seen entry = (entry.0.now, entry.1)

abbrev pub names_seen : List (Bor (List ℕ) × ℕ) → NameList
names_seen entries = map name_seen entries
