-- An answer as a list of fixed length: the refusal's number, 0 where there is none; the number of the record refused, or the position of
-- the finding; and so many values. What an answer lacks is 0.
use Rattle.std.specs.Prelude.{List, ◌∷◌, ℕ}
use Rattle.event.specs.Reply.{Reply}
use Rattle.records.specs.Record.{padded}
use Rattle.replies.specs.declared.Numbers.{Numbers}
use Rattle.replies.specs.Numbers.{numbers_of}

abbrev pub with_values : ℕ → Numbers → List ℕ
with_values values n = n.number ∷ n.at ∷ padded values n.values

-- a trace: the judge's events, fences and findings other than none, or the quotient, remainder and divisor of a mean exposure
abbrev pub five_numbers : Reply → List ℕ
five_numbers reply = with_values 3 (numbers_of reply)

-- findings laid out: the length written
abbrev pub three_numbers : Reply → List ℕ
three_numbers reply = with_values 1 (numbers_of reply)
