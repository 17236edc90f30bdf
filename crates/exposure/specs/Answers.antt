-- What a run answers that is asked for its mean exposure.
use Rattle.std.specs.Prelude.{ℕ, Result, Ok}
use Rattle.event.specs.declared.Refusal.{Refusal}
use Rattle.exposure.specs.declared.Mean.{Mean}

abbrev pub Exposed : Type 0
Exposed = Result Mean Refusal

-- the mean
abbrev pub mean : {E : Type 0} → (quotient remainder divisor : ℕ) → Result Mean E
mean quotient remainder divisor = Ok (record { quotient = quotient; remainder = remainder; divisor = divisor })
