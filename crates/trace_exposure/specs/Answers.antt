-- The mean exposure of a trace, or a refusal.
use Rattle.std.specs.Prelude.{Result}
use Rattle.event.specs.declared.TraceRefusal.{TraceRefusal}
use Rattle.exposure.specs.declared.Mean.{Mean}

abbrev pub TraceExposure : Type 0
TraceExposure = Result Mean TraceRefusal
