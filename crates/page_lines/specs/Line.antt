-- What a line of a page is, and which findings have one.
use Rattle.std.specs.Prelude.{◌≡◌, List, ◌++◌, ℕ, ◌≤◌, length}
use Rattle.text.specs.Text.{ascii}
use Rattle.text.specs.Occurs.{occurs}
use Rattle.finding_lines.specs.declared.Row.{Row}

-- 61 columns, none of which is a line feed, and a line feed
pub record Line (s : List ℕ) : Type 0 where
  pub body : List ℕ
  pub whole : s ≡ body ++ ascii "\n"
  pub columns : length body ≡ 61
  pub unbroken : occurs 10 body ≡ 0

-- a finding that 16 bits can hold
pub record Held (row : Row) : Type 0 where
  pub event : row.event ≤ 65535
  pub site : row.site ≤ 65535
  pub lost : row.fields.lost ≤ 65535
  pub kept : row.fields.kept ≤ 65535
  pub moment : row.fields.moment ≤ 65535
  pub store : row.fields.store ≤ 65535
