-- The persist interval of a byte after a trace, or a refusal.
use Rattle.std.specs.Prelude.{Result, Ok}
use Rattle.event.specs.declared.NamedInterval.{NamedInterval}
use Rattle.event.specs.declared.TraceRefusal.{TraceRefusal}
use Rattle.trace_interval.specs.declared.SitedInterval.{SitedInterval}
use Rattle.trace_interval.specs.declared.Sites.{Sites}

abbrev pub TraceInterval : Type 0
TraceInterval = Result SitedInterval TraceRefusal

-- the interval, with the sites of its events
abbrev pub sited : {E : Type 0} → NamedInterval → Sites → Result SitedInterval E
sited interval sites = Ok (record { interval = interval; sites = sites })
