-- The writer and its area after a call that is read from bytes.
use Rattle.std.specs.Prelude.{ℕ, zero, suc, ◌+◌, ◌*◌, ◌%◌, min, Bool, cond, ◌||◌, List, [], ◌∷◌, ◌++◌, length, take, drop, ◌==◌, nat_le, slice_index, slice_index_or, slice_set}
use Rattle.std.specs.Result.{result_unwrap_or}
use Rattle.codec.specs.Codec.{u16_at, u32_at}
use Rattle.codec.specs.Placed.{placed}
use Rattle.records.specs.Record.{record_size, padded}
use Rattle.file.specs.declared.Writer.{Writer}
use Rattle.file.specs.Answers.{Started}
use Rattle.file.specs.Write.{writer_with, started_of, area_started, bytes_written_of, area_bytes_written, area_closed}

-- the writer of any numbers in a call
abbrev pub writer_of : List ℕ → Writer
writer_of s = writer_with (u16_at s 2) (u32_at s 4) (u32_at s 8) (slice_index s 1)

-- a refused start leaves the writer as it was
abbrev pub after_start : Started → Writer → Writer
after_start s w = result_unwrap_or s w

-- the record in a call
abbrev pub record_in : List ℕ → List ℕ
record_in s = slice_set (padded record_size s) 0 (slice_index s 0 % 64)

-- a call that is answered: a start, a closing, an event
abbrev pub is_answered : ℕ → Bool
is_answered kind = kind == 35 || kind == 36 || nat_le 64 kind

-- after a call, by its kind: 35 is a start, 36 a closing, 37 a writer of any numbers, 64 and more an event; any other changes nothing
abbrev pub writer_after_call : (area preamble : List ℕ) → Writer → List ℕ → Writer
writer_after_call area preamble w s =
    let kind = slice_index_or s 0 0 in
    cond (kind == 35) (after_start (started_of area preamble (u16_at s 2)) w)
    (cond (kind == 36) w
    (cond (kind == 37) (writer_of s)
    (cond (nat_le 64 kind) (bytes_written_of area w (record_in s)).writer
    w)))

abbrev pub area_after_call : (area preamble : List ℕ) → Writer → List ℕ → List ℕ
area_after_call area preamble w s =
    let kind = slice_index_or s 0 0 in
    cond (kind == 35) (area_started area preamble (u16_at s 2))
    (cond (kind == 36) (area_closed area w)
    (cond (kind == 37) area
    (cond (nat_le 64 kind) (area_bytes_written area w (record_in s))
    area)))

-- so many bytes: number i from 0 is from + step × i, in 8 bits
abbrev pub pattern : (from step : ℕ) → ℕ → List ℕ
pattern from step zero = []
pattern from step (suc n) = pattern from step n ++ (from + step * n) % 256 ∷ []

-- the size in a call
abbrev pub size_in : List ℕ → ℕ
size_in s = u32_at s 2

-- 32 is a fresh area in a space, of which it takes the first bytes; each is A5h. Any other call leaves it as it was
abbrev pub room_after : (space : List ℕ) (room : ℕ) → List ℕ → ℕ
room_after space room s = cond (slice_index s 0 == 32) (min (size_in s) (length space)) room

abbrev pub space_after : (space : List ℕ) → List ℕ → List ℕ
space_after space s =
    let n = min (size_in s) (length space) in
    cond (slice_index s 0 == 32) (pattern 165 0 n ++ drop n space) space

-- 33 is a preamble of a pattern, 34 one of the area's first bytes. Any other call leaves it as it was
abbrev pub free_after : (space area : List ℕ) (free : ℕ) → List ℕ → ℕ
free_after space area free s =
    cond (slice_index s 0 == 33) (min (size_in s) (length space))
    (cond (slice_index s 0 == 34) (min (size_in s) (length area)) free)

abbrev pub preamble_after : (space area : List ℕ) → List ℕ → List ℕ
preamble_after space area s =
    let n = min (size_in s) (length space) in
    cond (slice_index s 0 == 33) (pattern (slice_index s 6) 7 n ++ drop n space)
    (cond (slice_index s 0 == 34) (placed 0 (take (min (size_in s) (length area)) area) space) space)
