-- The starred small runs of document 01, and that of document 02's request 2, in two lines. Sites are 0. Since request 8 the one with
-- 0/8 before 0/8 is refused by 18.
use Rattle.std.specs.Prelude.{List, [], ◌∷◌, map, ℕ, Ok, Err}
use Rattle.event.specs.declared.Range.{Range}
use Rattle.event.specs.declared.Event.{Event}
use Rattle.event.specs.declared.Event.TheVariants.{Store, WriteBack, Fence, Begin, End, Persisted, Ordered}
use Rattle.event.specs.declared.Record.{Record}
use Rattle.event.specs.declared.Finding.{Finding}
use Rattle.event.specs.declared.Finding.TheVariants.{None, Holds, Lost, OutOfOrder, Unlogged, Clean}
use Rattle.event.specs.declared.Refusal.TheVariants.{SharedByte}
use Rattle.event.specs.Answers.{Answer}

-- a small run: the events given, and the answer to each
pub record SmallRun : Type 0 where
  pub given : List Event
  pub answers : List Answer

-- one whose events all have findings
abbrev run : List Event → List Finding → SmallRun
run given findings = record { given = given; answers = map Ok findings }

-- address/length
infix 50 ◌/·◌
abbrev ◌/·◌ : ℕ → ℕ → Range
address /· length = record { address = address; length = length }

abbrev pub recorded : List Event → List Record
recorded given = map (λ e. record { event = e; site = 0 }) given

abbrev pub small_runs : List SmallRun
small_runs =
    run (Persisted (0 /· 128) ∷ []) (Holds ∷ []) ∷
    run (Store (0 /· 8) ∷ Persisted (0 /· 8) ∷ []) (None ∷ Lost 0 2 1 ∷ []) ∷
    run (Store (0 /· 8) ∷ WriteBack (0 /· 8) ∷ Persisted (0 /· 8) ∷ []) (None ∷ None ∷ Lost 0 3 1 ∷ []) ∷
    run (Store (0 /· 8) ∷ WriteBack (0 /· 8) ∷ Fence ∷ Persisted (0 /· 8) ∷ []) (None ∷ None ∷ None ∷ Holds ∷ []) ∷
    run (WriteBack (0 /· 8) ∷ Store (0 /· 8) ∷ Fence ∷ Persisted (0 /· 8) ∷ []) (Clean 0 ∷ None ∷ None ∷ Lost 0 4 2 ∷ []) ∷
    run (Store (0 /· 8) ∷ WriteBack (0 /· 8) ∷ Store (0 /· 8) ∷ Fence ∷ Persisted (0 /· 8) ∷ []) (None ∷ None ∷ None ∷ None ∷ Lost 0 5 3 ∷ []) ∷
    run (Store (0 /· 8) ∷ Store (8 /· 8) ∷ Ordered (0 /· 8) (8 /· 8) ∷ []) (None ∷ None ∷ Holds ∷ []) ∷
    run (Store (0 /· 8) ∷ Store (8 /· 8) ∷ Ordered (8 /· 8) (0 /· 8) ∷ []) (None ∷ None ∷ OutOfOrder 8 0 1 2 ∷ []) ∷
    run (Store (60 /· 8) ∷ Ordered (60 /· 4) (64 /· 4) ∷ []) (None ∷ OutOfOrder 60 64 1 1 ∷ []) ∷
    record { given = Store (0 /· 8) ∷ Ordered (0 /· 8) (0 /· 8) ∷ []; answers = Ok None ∷ Err SharedByte ∷ [] } ∷
    run (Begin ∷ Store (0 /· 8) ∷ End ∷ []) (None ∷ Unlogged 0 ∷ Lost 0 3 2 ∷ []) ∷
    run (Store (0 /· 16) ∷ Ordered (0 /· 8) (8 /· 8) ∷ []) (None ∷ OutOfOrder 0 8 1 1 ∷ []) ∷  -- torn
    []
