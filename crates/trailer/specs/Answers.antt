-- What the end of a trace says: its trailer, or a refusal.
use Rattle.std.specs.Prelude.{Result}
use Rattle.event.specs.declared.Refusal.{Refusal}
use Rattle.trailer.specs.declared.Trailer.{Trailer}

abbrev pub Opened : Type 0
Opened = Result Trailer Refusal
