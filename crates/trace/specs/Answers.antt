-- What a check of all records says; the number of a refused record counts from 1, and is 0 at the closing.
use Rattle.std.specs.Prelude.{Result, ⊤}
use Rattle.event.specs.declared.TraceRefusal.{TraceRefusal}

abbrev pub TraceCheck : Type 0
TraceCheck = Result ⊤ TraceRefusal
