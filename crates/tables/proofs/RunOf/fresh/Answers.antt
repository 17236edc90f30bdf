-- `RunOf::fresh` meets its contract: it is the definition.
use Rattle.tables.proofs.RunOf.fresh.Goals as goal

pub returns : goal.returns
returns g c = rw c.no_counts.ensures
