-- What the judge answers to a trace: the totals, or a refusal.
use Rattle.std.specs.Prelude.{Result}
use Rattle.event.specs.declared.Totals.{Totals}
use Rattle.event.specs.declared.TraceRefusal.{TraceRefusal}

abbrev pub Verdict : Type 0
Verdict = Result Totals TraceRefusal
