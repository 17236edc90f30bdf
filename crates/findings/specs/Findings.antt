-- The findings of a persisted and of an end, from the tables that they ask for.
use Rattle.std.specs.Prelude.{cond, List, ℕ, ltb, eqb}
use Rattle.std.proofs.Math.Option.{Option}
use Rattle.event.specs.declared.Finding.{Finding}
use Rattle.event.specs.declared.Finding.TheVariants.{None, Holds, Lost, Empty}
use Rattle.window.specs.Window.{window_bytes}
use Rattle.history.specs.Found.{lowest, found_or}
use Rattle.tables.specs.declared.Counts.{Counts}
use Rattle.tables.specs.Table.{entry}
use Rattle.tables.specs.View.{lines_of}
use Rattle.searches.specs.Tests.{lost_at_end}

-- holds, or lost at the byte found, by the event with this number
abbrev pub durable_at : ℕ → List ℕ → Option ℕ → Finding
durable_at number stored found = found_or found Holds (λ b. Lost b number (entry stored b))

-- an end: none if it is an inner one; else empty, or as a persisted over the bytes stored since the begin
abbrev pub ended_at : ℕ → Counts → (stored fenced dirtied backed : List ℕ) → Finding
ended_at number counts stored fenced dirtied backed =
    cond (eqb counts.depth 1)
    (cond (ltb counts.begin counts.store)
    (durable_at number stored (lowest (lost_at_end counts.begin counts.fence stored fenced dirtied backed) 0 (window_bytes (lines_of counts))))
    Empty)
    None
