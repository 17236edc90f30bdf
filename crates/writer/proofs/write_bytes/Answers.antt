-- `writer::write_bytes` meets its contract: the event is written as it was read.
use mathlib.Core.Path.{ap, ◌∙◌}
use Rattle.file.specs.Write.{area_parsed_written}
use Rattle.file.proofs.Outcomes.{bytes_parsed}
use Rattle.writer.proofs.write_bytes.Goals as goal

pub returns-clause-area_after : goal.returns-clause-area_after
returns-clause-area_after c =
    let a = c.args in
    c.write_parsed.ensures.area_after ∙ ap (area_parsed_written a.area.now a.w.now) c.read_record.ensures ∙ (bytes_parsed a.area.now a.w.now a.bytes.now).1
