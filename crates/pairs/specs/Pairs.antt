-- The pairs of bytes that break an order, and what a search for them finds.
use Rattle.std.specs.Prelude.{Option as Answer, Some, None, Bool, cond, not, ◌&&◌, ◌||◌, List, ℕ, ltb, eqb}
use Rattle.std.proofs.Math.Option.{Option, none, some}
use Rattle.window.specs.Window.{line_of, word_of}
use Rattle.history.specs.Found.{Pair as Found}
use Rattle.tables.specs.Table.{entry}
use Rattle.pairs.specs.declared.Kept.{Kept}
use Rattle.pairs.specs.declared.Pair.{Pair}

-- what a search answers
unfoldable pub pair_searched : Option Found → Answer Pair
pair_searched none = None
pair_searched (some p) = Some (record { kept = p.kept; lost = p.lost })

-- a crash may keep the first byte and lose the second: by their last stores, whether one line has both and whether one word has, and the
-- fence that closed the lost byte's interval; on two lines if that fence is older than the lost store or younger than the kept one
abbrev pub is_broken : ℕ → ℕ → Bool → Bool → ℕ → Bool
is_broken keptStore lostStore oneLine one_word fence =
    not (eqb keptStore 0) && not (eqb lostStore 0) &&
    cond oneLine (ltb keptStore lostStore || eqb keptStore lostStore && not one_word) (ltb fence lostStore || ltb keptStore fence)

-- what is asked of a byte that it may keep
abbrev pub kept_of : (stored : List ℕ) → ℕ → Kept
kept_of stored b = record { store = entry stored b; line = line_of b; word = word_of b }

-- it may lose this byte and keep that one
abbrev pub lost_with : (stored fenced : List ℕ) → Kept → ℕ → Bool
lost_with stored fenced kept lost =
    is_broken kept.store (entry stored lost) (eqb kept.line (line_of lost)) (eqb kept.word (word_of lost)) (entry fenced lost)

-- the two bytes are so
abbrev pub broken_pair : (stored fenced : List ℕ) → ℕ → ℕ → Bool
broken_pair stored fenced kept = lost_with stored fenced (kept_of stored kept)
