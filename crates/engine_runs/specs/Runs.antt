-- The run after a call that is read from bytes.
use Rattle.std.specs.Prelude.{cond, List, ℕ, zero, suc, eqb, get_or, Ok, Err}
use Rattle.event.specs.declared.Event.TheVariants.{Fence}
use Rattle.event.specs.Answers.{Parsed}
use Rattle.codec.specs.Codec.{u16_at}
use Rattle.records.specs.Record.{parsed}
use Rattle.tables.specs.Run.{Run}
use Rattle.events.specs.Give.{give_of}
use Rattle.engine.specs.Call.{fresh_of}

-- after a record; one that cannot be read changes nothing
abbrev pub after_record : Run → Parsed → Run
after_record run (Ok r) = (give_of run r).run
after_record run (Err x) = run

-- after so many fences
unfoldable pub after_fences : Run → ℕ → Run
after_fences run zero = run
after_fences run (suc n) = (give_of (after_fences run n) (record { event = Fence; site = 0 })).run

-- after a call, by its kind: 16 is a fresh window, 17, 18 and 20 ask, close and ask for the mean exposure, 19 is fences, any other an
-- event given
abbrev pub after_call : Run → List ℕ → Run
after_call run s =
    let kind = get_or s 0 0 in
    let number = u16_at s 2 in
    cond (eqb kind 16) (fresh_of number).run
    (cond (eqb kind 17) run
    (cond (eqb kind 18) run
    (cond (eqb kind 19) (after_fences run number)
    (cond (eqb kind 20) run
    (after_record run (parsed s))))))
