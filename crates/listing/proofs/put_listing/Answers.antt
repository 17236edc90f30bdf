-- The parts are put one after another.
use Rattle.std.proofs.Common.{ap}
use Rattle.trailer.specs.declared.Trailer.{Trailer}
use Rattle.text.proofs.Puts.{◌then◌}
use Rattle.listing.proofs.put_listing.Goals as goal

pub returns : goal.returns
returns c =
    let lines = ap (λ (c : Trailer). c.lines) c.trailer-trailer.ensures in
    (rw lines at c.head.ensures) then c.findings.ensures then c.foot.ensures
