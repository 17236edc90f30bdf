-- What the calls of a writer answer.
use Rattle.std.specs.Prelude.{ℕ, Result}
use Rattle.event.specs.declared.Refusal.{Refusal}
use Rattle.event.specs.Answers.{Check}
use Rattle.file.specs.declared.Writer.{Writer}

-- a start: a refused one hands over no writer
abbrev pub Started : Type 0
Started = Result Writer Refusal

-- an event: what the limits say, and the writer to go on with
pub record Written : Type 0 where
  pub check : Check
  pub writer : Writer

-- a closing: the file's length, from the area's start
abbrev pub Closed : Type 0
Closed = Result ℕ Refusal
