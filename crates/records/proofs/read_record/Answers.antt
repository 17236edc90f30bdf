-- `records::read_record` meets its contract: the bytes that `padded` gives are read as those of the slice are.
-- Assumes nothing.
use Rattle.records.proofs.read_record.Goals as goal

pub returns-then-s-lt12 : goal.returns-then-s-lt12
returns-then-s-lt12 c = simp (c.read_whole.ensures, c.padded-t.ensures)
