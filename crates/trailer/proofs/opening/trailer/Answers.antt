-- `trailer::opening::trailer` meets its contract: it is read from the last 16 bytes, or from all of fewer.
use Rattle.trailer.proofs.FileLimits.{last_trailer}
use Rattle.trailer.proofs.opening.trailer.Goals as goal

pub returns : goal.returns
returns c = last_trailer c.args.s.now c.saturating_sub-at.ensures c.read_trailer.ensures
