-- What the judge answers decides between the refusal and the listing, whose finding lines are read off the area.
use Rattle.std.proofs.Common.{sym}
use Rattle.listing.proofs.Whole.{refusal_put, listing_put}
use Rattle.listing.proofs.put_report.Goals as goal

pub returns-in-Err-clause-text_after : goal.returns-in-Err-clause-text_after
returns-in-Err-clause-text_after c =
    refusal_put c.args.trace.now c.args.area.now (sym c.in-Err.ensures.value) c.number.ensures c.refusal.ensures

pub returns-in-Ok-clause-text_after : goal.returns-in-Ok-clause-text_after
returns-in-Ok-clause-text_after c =
    listing_put c.args.trace.now c.args.area.now (sym c.in-Ok.ensures.value) c.judge.ensures.area_after c.put_listing.ensures
