-- What a run holds, whether it has entries for the epochs and the first write-backs or none.
use Rattle.std.specs.Prelude.{List, ℕ}
use Rattle.tables.specs.declared.Counts.{Counts}

-- its numbers and its tables
pub record Run : Type 0 where
  pub counts : Counts
  pub stored : List ℕ
  pub logged : List ℕ
  pub fenced : List ℕ
  pub opened : List ℕ
  pub closed : List ℕ
  pub written : List ℕ
  pub dirtied : List ℕ
  pub backed : List ℕ
