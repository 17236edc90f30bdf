-- The blanks up to here are put.
use Rattle.text.specs.Cursor.{Puts}
use Rattle.text.specs.Field.{blanks}
use Rattle.text.proofs.Cursor.blanks.Given as goal

abbrev pub invariant-loop : goal.invariant-loop
invariant-loop l = Puts (blanks l.counter) l.initial.self l.self
