-- What a findings area that is laid out gets: the length written, or a refusal with the position of the finding that it is about, from 1, or 0.
use Rattle.std.specs.Prelude.{ℕ, Result, Err}
use Rattle.event.specs.declared.Refusal.{Refusal}
use Rattle.pages.specs.declared.PageRefusal.{PageRefusal}

abbrev pub Paged : Type 0
Paged = Result ℕ PageRefusal

-- a refusal, and the position of the finding that it is about, from 1, or 0
abbrev pub about_finding : Refusal → ℕ → PageRefusal
about_finding x n = record { refusal = x; position = n }

-- the area is refused
abbrev pub refused_finding : {T : Type 0} → Refusal → ℕ → Result T PageRefusal
refused_finding x n = Err (about_finding x n)
