-- `writer::write` meets its contract: accepted it lays the record behind the last one.
use mathlib.Core.Path.{sym}
use lib.ListN.{length}
use Rattle.records.specs.Record.{record_bytes}
use Rattle.file.specs.Write.{records_end, view_of}
use Rattle.file.proofs.Passed.{event_passed, own_passed}
use Rattle.file.proofs.Outcomes.{area_laid}
use Rattle.writer.proofs.write.Goals as goal

pub next-requires-clause-passed : goal.next-requires-clause-passed
next-requires-clause-passed c =
    let k = c.args in
    let v = view_of k.w.now in
    own_passed _ _ v k.r.event (event_passed (length k.area.now) (records_end k.w.now) v k.r.event (sym c.in_ok-check_write.ensures))

pub returns-clause-area_after : goal.returns-clause-area_after
returns-clause-area_after c =
    let k = c.args in
    let w = k.w.now in
    let e = sym c.in_ok-check_write.ensures in
    let f = event_passed (length k.area.now) (records_end w) (view_of w) k.r.event e in
    area_laid (records_end w) (record_bytes k.r.event k.r.site) k.area.now e f.enough c.records_end.ensures c.record_bytes-bytes.ensures c.put.ensures
