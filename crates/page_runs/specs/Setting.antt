-- The findings area after a call that is read from bytes. It is the first bytes of a space.
use Rattle.std.specs.Prelude.{ℕ, zero, suc, ◌+◌, ◌-◌, ◌*◌, ◌/◌, ◌%◌, min, cond, List, [], ◌∷◌, ◌++◌, length, take, ◌==◌, nat_lt, slice_index, slice_index_or}
use Rattle.codec.specs.Codec.{finding_size, u16_at, u16_bytes, u32_at}
use Rattle.codec.specs.Placed.{placed}
use Rattle.writer_calls.specs.Writing.{pattern}

-- the step and the number in a call
abbrev pub step_in : List ℕ → ℕ
step_in s = u16_at s 2

abbrev pub number_in : List ℕ → ℕ
number_in s = u32_at s 4

-- the finding in a call, with a number added to each of its five fields, in 16 bits
abbrev pub field_plus : List ℕ → (at more : ℕ) → List ℕ
field_plus s at more = u16_bytes ((u16_at s at + more) % 65536)

abbrev pub finding_plus : List ℕ → (more : ℕ) → List ℕ
finding_plus s more =
    slice_index s 12 ∷ slice_index s 13 ∷
    field_plus s 14 more ++ field_plus s 16 more ++ field_plus s 18 more ++ field_plus s 20 more ++ field_plus s 22 more

-- so many findings from a place on: to number i from 0, i times the step is added
unfoldable pub findings_put : (space : List ℕ) (at : ℕ) → List ℕ → (count : ℕ) → List ℕ
findings_put space at s zero = space
findings_put space at s (suc n) = placed (at + finding_size * n) (finding_plus s (step_in s * n % 65536)) (findings_put space at s n)

-- how many there is room for
abbrev pub fitting_in : (space : List ℕ) (at count : ℕ) → ℕ
fitting_in space at count = min count ((length space - at) / finding_size)

-- a longer area: the bytes behind it become 0
abbrev pub zeroed : (used size : ℕ) (space : List ℕ) → List ℕ
zeroed used size space = cond (nat_lt used size) (take used space ++ pattern 0 0 (length space - used)) space

-- a byte of the area set
abbrev pub byte_set : (used at b : ℕ) (space : List ℕ) → List ℕ
byte_set used at b space = cond (nat_lt at used) (placed at (b ∷ []) space) space

-- after a call, by its kind: 1 puts findings behind the area, 2 makes it shorter or longer, 3 sets a byte; any other changes nothing
abbrev pub used_after : (space : List ℕ) (used : ℕ) → List ℕ → ℕ
used_after space used s =
    let kind = slice_index_or s 0 0 in
    cond (kind == 1) (used + finding_size * fitting_in space used (number_in s))
    (cond (kind == 2) (min (number_in s) (length space))
    used)

abbrev pub space_after : (space : List ℕ) (used : ℕ) → List ℕ → List ℕ
space_after space used s =
    let kind = slice_index_or s 0 0 in
    cond (kind == 1) (findings_put space used s (fitting_in space used (number_in s)))
    (cond (kind == 2) (zeroed used (min (number_in s) (length space)) space)
    (cond (kind == 3) (byte_set used (number_in s) (slice_index s 1) space)
    space))
