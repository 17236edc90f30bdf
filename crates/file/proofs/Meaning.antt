-- A file of one byte and a fence, closed; another fence, which takes the trailer's place; and the file closed again. Byte for byte, so that
-- a wrong definition is refused here.
-- Assumes nothing.
use Rattle.std.specs.Prelude.{Ok}
use mathlib.Core.Path.{◌≡◌, refl}
use mathlib.Core.List.{List, [], ◌∷◌, ◌++◌}
use Prim.Native.Nat.{ℕ}
use lib.ListN.{replicate}
use Rattle.event.specs.declared.Event.TheVariants.{Fence}
use Rattle.event.specs.declared.Record.{Record}
use Rattle.file.specs.Write.{writer_with, area_started, area_written, closed_of, area_closed}

abbrev fence : ℕ → Record
fence site = record { event = Fence; site = site }

-- an area of 45 bytes, each of which is 9; the preamble is one byte, 7
abbrev started : List ℕ
started = area_started (replicate 45 9) (7 ∷ []) 1

abbrev closed : List ℕ
closed = area_closed (area_written started (writer_with 1 1 0 0) (fence 5)) (writer_with 1 1 1 0)

abbrev closed_again : List ℕ
closed_again = area_closed (area_written closed (writer_with 1 1 1 0) (fence 6)) (writer_with 1 1 2 0)

-- the records of the two fences
abbrev first : List ℕ
first = 3 ∷ 0 ∷ 0 ∷ 0 ∷ 0 ∷ 0 ∷ 0 ∷ 0 ∷ 0 ∷ 0 ∷ 5 ∷ 0 ∷ []

abbrev second : List ℕ
second = 3 ∷ 0 ∷ 0 ∷ 0 ∷ 0 ∷ 0 ∷ 0 ∷ 0 ∷ 0 ∷ 0 ∷ 6 ∷ 0 ∷ []

-- the mark, the offset 1, the count, one line, and zero
abbrev trailer : ℕ → List ℕ
trailer count = 80 ∷ 84 ∷ 82 ∷ 65 ∷ 1 ∷ 0 ∷ 0 ∷ 0 ∷ count ∷ 0 ∷ 0 ∷ 0 ∷ 1 ∷ 0 ∷ 0 ∷ 0 ∷ []

pub worked_file : closed ≡ 7 ∷ first ++ trailer 1 ++ replicate 16 9
worked_file = refl

pub worked_again : closed_again ≡ 7 ∷ first ++ second ++ trailer 2 ++ replicate 4 9
worked_again = refl

-- the length is that of the file, from the area's start
pub worked_length : closed_of closed (writer_with 1 1 1 0) ≡ Ok 29
worked_length = refl
