-- `file_limits::check_write` meets its contract: 2, then the event's own limits, then 15.
use mathlib.Core.Path.{sym, ap, ◌∙◌}
use mathlib.Core.List.{[], ◌∷◌}
use Prim.Native.Nat.{ℕ, ◌+◌}
use Rattle.std.proofs.lemmas.Result.{err_from_is_err_and}
use Rattle.records.specs.Record.{record_size}
use Rattle.history.specs.Refused.{first_broken}
use Rattle.file.specs.Limits.{room_limit}
use Rattle.file.proofs.Outcomes.{write_refused_lem, write_passed}
use Rattle.file_limits.proofs.check_write.Goals as goal

pub returns-in_err-check_event : goal.returns-in_err-check_event
returns-in_err-check_event c =
    let p = err_from_is_err_and c.from_residual.result c.from_residual.ensures.1 in
    let k = c.args in
    rw (p.1, p.2) (write_refused_lem k.room k.w k.e c.is_full.ensures c.if-is_full.false (sym c.in_err-check_event.ensures))

pub returns : goal.returns
returns c =
    let k = c.args in
    write_passed k.room k.w k.e c.is_full.ensures c.if-is_full.false
    (sym c.in_ok-check_event.ensures)
    (c.check_room.ensures ∙ ap (λ (at : ℕ). first_broken (room_limit k.room (at + record_size) ∷ [])) c.records_end.ensures)
