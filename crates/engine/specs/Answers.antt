-- What a byte asked gets, and a run that is closed.
use Rattle.std.specs.Prelude.{Result}
use Rattle.event.specs.declared.NamedInterval.{NamedInterval}
use Rattle.event.specs.declared.Refusal.{Refusal}
use Rattle.event.specs.declared.Totals.{Totals}

-- a byte asked
abbrev pub Asked : Type 0
Asked = Result NamedInterval Refusal

-- a run closed
abbrev pub Closing : Type 0
Closing = Result Totals Refusal
