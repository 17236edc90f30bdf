-- The numbers of the call are the event's bytes, and what the writer answers for these goes into the caller's numbers.
use mathlib.Core.Path.{ap, ap₂, ◌∙◌}
use Rattle.event.specs.declared.Range.{Range}
use Rattle.event.specs.Answers.{Check}
use Rattle.event.specs.Reply.{check_reply}
use Rattle.file.specs.declared.Writer.{Writer}
use Rattle.file.specs.Answers.{Written}
use Rattle.pmjudge_c.specs.Writer.{with_length, after_check}
use Rattle.pmjudge_c.proofs.Calls.{answered, event_written, event_area}
use Rattle.pmjudge_c.proofs.writing.pmjudge_writer_event.Goals as goal

pub returns : goal.returns
returns c =
    let w = c.writer_of-w.ensures in
    let p = c.read_fields-p.ensures in
    let e = c.write_parsed-c.ensures in
    let a = c.args in
    let first : Range = record { address = a.a; length = a.a_length } in
    let second : Range = record { address = a.b; length = a.b_length } in
    let x = event_written a.area.now w a.kind first second a.site p in
    let check = e.value ∙ ap (λ (y : Written). y.check) x in
    let writer = e.writer_after ∙ ap (λ (y : Written). y.writer) x in
    record {
      answer_after = answered with_length check_reply c.length_only.ensures c.of.ensures check;
      writer_after = c.put_numbers.ensures ∙ ap₂ (λ (y : Check) (z : Writer). after_check y z a.writer.now) check writer;
      area_after = event_area a.area.now w a.kind first second a.site p e.area_after;
    }
