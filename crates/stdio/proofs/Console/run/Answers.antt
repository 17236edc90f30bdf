-- The call of the report is the one that the clause speaks of.
use Rattle.std.proofs.Common.{refl}
use Rattle.stdio.proofs.Console.run.Goals as goal

pub returns-clause-reported : goal.returns-clause-reported
returns-clause-reported g c =
    (c.in_ok-len.len, record { read = _; reads = refl; shown = _; shows = refl; left = _; met = c.report-n.ensures; leaves = refl })
