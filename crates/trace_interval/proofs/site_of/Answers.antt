-- `trace_interval::site_of` meets its contract: an event has the site of the record with its number.
use native.Mathlib.Omega.{arith}
use Rattle.trace_interval.proofs.RecordSite.{site_read, site_none}
use Rattle.trace_interval.proofs.site_of.Goals as goal

pub returns-then-count-n : goal.returns-then-count-n
returns-then-count-n c = let k = c.args in site_none k.count k.records.now k.event c.if-count-n.true

pub returns-in-Err : goal.returns-in-Err
returns-in-Err c =
    let k = c.args in
    site_read k.count k.records.now k.event (omega arith) c.if-count-n.false c.in-Err.ensures

pub returns-in-Ok : goal.returns-in-Ok
returns-in-Ok c =
    let k = c.args in
    site_read k.count k.records.now k.event (omega arith) c.if-count-n.false c.in-Ok.ensures
