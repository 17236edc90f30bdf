-- The kind decides between the calls; what is left is the area after an event.
use Rattle.std.proofs.Common.{arith}
use Rattle.writer_calls.proofs.AfterWriting.{event_call}
use Rattle.writer_calls.proofs.writing.call.Goals as goal

pub returns-in-64-to-255-clause-area_after : goal.returns-in-64-to-255-clause-area_after
returns-in-64-to-255-clause-area_after g c =
    (event_call c.args.area.now c.args.preamble.now c.args.w c.args.bytes.now c.byte_at.ensures (omega arith) (omega arith) (omega arith)
    (omega arith) c.record_in-record.ensures c.write.ensures.value c.write.ensures.area_after).1
