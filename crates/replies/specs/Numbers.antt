-- An answer as numbers: the refusal's number, 0 where there is none; the number of the record refused; and the values, with how many
-- there are. What an answer lacks is 0.
use Rattle.std.specs.Prelude.{List, [], ℕ, ◌%◌, ◌^◌, length, Ok, Err}
use Rattle.event.specs.Reply.{Reply}
use Rattle.records.specs.Record.{padded}
use Rattle.file.specs.Answers.{Closed}
use Rattle.replies.specs.declared.Numbers.{Numbers}

-- no answer has more values: those of a closed interval are two epochs, three events and their three sites
abbrev pub most_values : ℕ
most_values = 8

abbrev pub numbers_with : (number at : ℕ) → List ℕ → Numbers
numbers_with number at values = record { number = number; at = at; count = length values; values = padded most_values values }

abbrev pub numbers_of : Reply → Numbers
numbers_of (Reply.refused number at) = numbers_with number at []
numbers_of (Reply.values values) = numbers_with 0 0 values

-- the length of a file has 32 bits: only a writer that no start handed over can have a longer one
abbrev pub in_bits32 : Closed → Closed
in_bits32 (Ok length) = Ok (length % 2 ^ 32)
in_bits32 (Err x) = Err x
