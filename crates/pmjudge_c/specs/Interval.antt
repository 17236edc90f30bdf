-- The answer to a byte asked after a trace as eleven numbers: the refusal's number, 0 where there is none; the number of the record refused; 0
-- for no interval, 1 for an open one, 2 for a closed one; the epochs that opened and closed it; the events of the last store, of the first
-- write-back after it and of the fence; and the sites of these three. What an answer lacks is 0.
use Rattle.std.specs.Prelude.{cond, List, [], ◌∷◌, ℕ, eqb, get_or}
use Rattle.event.specs.Reply.{Reply}
use Rattle.records.specs.Record.{padded}
use Rattle.replies.specs.declared.Numbers.{Numbers}
use Rattle.replies.specs.Numbers.{numbers_of}

-- an open interval has five values: its epoch, two events and their sites
abbrev pub open_places : Numbers → List ℕ
open_places n =
    let value : ℕ → ℕ = λ i. get_or n.values i 0 in
    n.number ∷ n.at ∷ 1 ∷ value 0 ∷ 0 ∷ value 1 ∷ value 2 ∷ 0 ∷ value 3 ∷ value 4 ∷ 0 ∷ []

-- a closed one has eight: two epochs, three events and their sites
abbrev pub closed_places : Numbers → List ℕ
closed_places n = n.number ∷ n.at ∷ 2 ∷ padded 8 n.values

-- a refusal, and a byte never stored to, have none
abbrev pub places_of : Numbers → List ℕ
places_of n =
    cond (eqb n.count 5) (open_places n)
    (cond (eqb n.count 8) (closed_places n)
    (n.number ∷ n.at ∷ 0 ∷ padded 8 []))

abbrev pub eleven_numbers : Reply → List ℕ
eleven_numbers reply = places_of (numbers_of reply)
