-- The tests that searches make on the tables, and what they find.
use Rattle.std.specs.Prelude.{Option as Answer, Some, None, Bool, true, false, cond, not, ◌&&◌, ◌||◌, List, ℕ, zero, suc, ◌+◌, ltb, eqb}
use Rattle.std.proofs.Math.Option.{Option, none, some}
use Rattle.window.specs.Window.{line_of}
use Rattle.history.specs.Found.{lowest}
use Rattle.tables.specs.Table.{entry}
use Rattle.tables.specs.View.{open_line}
use Rattle.searches.specs.declared.Test.{Test}
use Rattle.searches.specs.declared.Test.TheVariants.{Since, NotSince, OpenSince, Open, Wasted}

-- what a search answers
unfoldable pub searched : Option ℕ → Answer ℕ
searched none = None
searched (some x) = Some x

-- what it found, by its answer
abbrev pub found_by : Answer ℕ → Option ℕ
found_by None = none
found_by (Some x) = some x

-- it found something
abbrev pub is_found : Option ℕ → Bool
is_found none = false
is_found (some x) = true

-- so many groups of eight numbers from a place on: the start of the first group of which a number passes, or the place after them all
unfoldable pub skipped : (ℕ → Bool) → ℕ → ℕ → ℕ
skipped p at zero = at
skipped p at (suc n) = let rest = skipped p (at + 8) n in cond (is_found (lowest p at 8)) at rest

-- the entries of a byte or a line in two tables are what the test looks for: an event after this one in the first; none after it;
-- a store after it, and an older closing fence in the second; a store, and an older closing fence; no store in the first, or none since
-- the last write-back in the second
abbrev pub passes_by : Test → ℕ → ℕ → Bool
passes_by (Since n) x y = ltb n x
passes_by (NotSince n) x y = not (ltb n x)
passes_by (OpenSince n) x y = ltb n x && ltb y x
passes_by Open x y = ltb y x
passes_by Wasted x y = eqb x 0 || ltb x y

-- the byte or line is so
abbrev pub passing : Test → (xs ys : List ℕ) → ℕ → Bool
passing test xs ys b = passes_by test (entry xs b) (entry ys b)

-- the byte's interval is open, asked of its line first
abbrev pub open_byte : (fence : ℕ) → (stored fenced dirtied backed : List ℕ) → ℕ → Bool
open_byte fence stored fenced dirtied backed b = open_line fence dirtied backed (line_of b) && passing Open stored fenced b

-- the line was stored to since the begin, and may have an open byte
abbrev pub line_at_end : (begin fence : ℕ) → (dirtied backed : List ℕ) → ℕ → Bool
line_at_end begin fence dirtied backed l = ltb begin (entry dirtied l) && open_line fence dirtied backed l

-- the byte was stored to since the begin, by its line's last store and by its own, and its interval is open
abbrev pub lost_at_end : (begin fence : ℕ) → (stored fenced dirtied backed : List ℕ) → ℕ → Bool
lost_at_end begin fence stored fenced dirtied backed b = line_at_end begin fence dirtied backed (line_of b) && passing (OpenSince begin) stored fenced b
