-- `trailer::opening::has_mark` meets its contract.
use Rattle.std.proofs.Common.{◌∙◌, take}
use Rattle.trailer.proofs.SameBytes.{starts_with_mark}
use Rattle.trailer.proofs.opening.has_mark.Goals as goal

pub returns : goal.returns
returns c = c.starts_with.ensures.value ∙ starts_with_mark (take 4 c.args.t.now)
