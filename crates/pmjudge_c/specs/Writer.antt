-- A writer and the answers to its calls as numbers.
use Rattle.std.specs.Prelude.{List, [], ◌∷◌, ℕ, ◌%◌, ◌^◌, get_or, Ok, Err}
use Rattle.event.specs.Answers.{Check}
use Rattle.event.specs.Reply.{Reply}
use Rattle.records.specs.Record.{fields_bytes}
use Rattle.file.specs.declared.Writer.{Writer}
use Rattle.file.specs.Answers.{Started, Written}
use Rattle.file.specs.Write.{writer_with}
use Rattle.replies.specs.declared.Numbers.{Numbers}
use Rattle.replies.specs.Numbers.{numbers_of}

-- the refusal's number, 0 where the call is accepted; and the file's length after an accepted closing, else 0
abbrev pub with_length : Numbers → List ℕ
with_length n = n.number ∷ get_or n.values 0 0 ∷ []

abbrev pub two_numbers : Reply → List ℕ
two_numbers reply = with_length (numbers_of reply)

-- a writer: lines, offset, count, transactions open. Of numbers that no writer has, the first and the last are taken in 16 bits
abbrev pub writer_numbers : Writer → List ℕ
writer_numbers w = w.lines ∷ w.offset ∷ w.count ∷ w.depth ∷ []

abbrev pub writer_from : List ℕ → Writer
writer_from n = writer_with (get_or n 0 0 % 2 ^ 16) (get_or n 1 0) (get_or n 2 0) (get_or n 3 0 % 2 ^ 16)

-- the numbers after a start and after an event; a refused one leaves them as they were
abbrev pub after_start : Started → List ℕ → List ℕ
after_start (Ok w) n = writer_numbers w
after_start (Err x) n = n

abbrev pub after_check : Check → Writer → List ℕ → List ℕ
after_check (Ok _) w n = writer_numbers w
after_check (Err x) w n = n

abbrev pub after_event : Written → List ℕ → List ℕ
after_event x n = after_check x.check x.writer n

-- an event's numbers as the bytes of a record
abbrev pub event_bytes : (kind a aLength b bLength site : ℕ) → List ℕ
event_bytes kind a aLength b bLength site =
    fields_bytes kind (record { address = a; length = aLength }) (record { address = b; length = bLength }) site
