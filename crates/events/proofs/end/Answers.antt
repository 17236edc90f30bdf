-- `events::end` meets its contract: its finding.
use Rattle.std.proofs.Common.{add-one}
use Rattle.tables.specs.Lent.{lent}
use Rattle.findings.proofs.Found.{end_found}
use Rattle.events.proofs.end.Goals as goal

pub returns-clause-value : goal.returns-clause-value
returns-clause-value c =
    let r = c.risk_tables.ensures in
    rw (end_found (lent c.args.run.now), c.of_end-finding.ensures, r.stored, r.fenced, r.dirtied, r.backed, add-one)
