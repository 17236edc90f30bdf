-- The numbers of some answers, worked out: which number stands where.
use Rattle.std.specs.Prelude.{Ok}
use mathlib.Core.Path.{◌≡◌, refl}
use mathlib.Core.List.{[], ◌∷◌}
use Rattle.event.specs.declared.Finding.TheVariants.{OutOfOrder}
use Rattle.event.specs.declared.NamedInterval.TheVariants.{Closed}
use Rattle.event.specs.declared.Refusal.TheVariants.{PastWindow}
use Rattle.event.specs.declared.TraceRefusal.{TraceRefusal}
use Rattle.event.specs.Reply.{answer_reply}
use Rattle.verdict.specs.Verdict.{verdict_reply}
use Rattle.trace_interval.specs.TraceInterval.{sites, trace_interval_reply}
use Rattle.replies.specs.Numbers.{numbers_of}
use Rattle.event.specs.Answers.{refused_at, totals}
use Rattle.trace_interval.specs.Answers.{sited}

-- a trace refused by 9 at its third record: number and record, and no value
refused_by_nine : numbers_of (verdict_reply (refused_at PastWindow 3)) ≡ record { number = 9; at = 3; count = 0; values = 0 ∷ 0 ∷ 0 ∷ 0 ∷ 0 ∷ 0 ∷ 0 ∷ 0 ∷ [] }
refused_by_nine = refl

-- the whole run of document 01: nine events, two fences, four findings
whole_run_lem : numbers_of (verdict_reply (totals 9 2 4)) ≡ record { number = 0; at = 0; count = 3; values = 9 ∷ 2 ∷ 4 ∷ 0 ∷ 0 ∷ 0 ∷ 0 ∷ 0 ∷ [] }
whole_run_lem = refl

-- its fifth event: out-of-order is kind 3, lost 0, kept 64, moment 2, store 1
fifth_event : numbers_of (answer_reply (Ok (OutOfOrder 0 64 2 1))) ≡ record { number = 0; at = 0; count = 5; values = 3 ∷ 0 ∷ 64 ∷ 2 ∷ 1 ∷ 0 ∷ 0 ∷ 0 ∷ [] }
fifth_event = refl

-- a closed interval: its epochs, store, write-back and fence, and the sites of these three
closed_interval : numbers_of (trace_interval_reply (sited {E = TraceRefusal} (Closed 1 3 4 7 9) (sites 5 8 11))) ≡
    record { number = 0; at = 0; count = 8; values = 1 ∷ 3 ∷ 4 ∷ 7 ∷ 9 ∷ 5 ∷ 8 ∷ 11 ∷ [] }
closed_interval = refl
