-- An event 0 has no line.
use Rattle.std.proofs.Common.{arith}
use Rattle.text.proofs.Puts.{nothing}
use Rattle.interval_lines.proofs.Sites.{site_put, none_put}
use Rattle.interval_lines.proofs.put_site.Goals as goal

pub returns-then-event-ne0 : goal.returns-then-event-ne0
returns-then-event-ne0 c = site_put c.args.event c.args.site (omega arith) c.phrase.ensures

pub returns-else-event-ne0 : goal.returns-else-event-ne0
returns-else-event-ne0 c = none_put c.args.event c.args.site (omega arith) (nothing c.args.text.now)
