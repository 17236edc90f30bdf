-- A record is read from its first 12 bytes.
use mathlib.Core.Path.{◌≡◌}
use mathlib.Core.List.{List}
use Prim.Native.Nat.{ℕ, ◌<◌}
use native.Mathlib.Omega.{arith}
use lib.ListN.{take, get_or}
use lib.Seq.{get_or-take}
use Rattle.records.specs.Record.{record_size, parsed}

-- the bytes that follow them change nothing
pub parsed_first : (s : List ℕ) → parsed (take record_size s) ≡ parsed s
parsed_first s =
    let byte : (i : ℕ) → i < record_size → get_or (take record_size s) i 0 ≡ get_or s i 0 = λ i k. get_or-take record_size s i 0 k in
    simp (
      byte 0 (omega arith),
      byte 1 (omega arith),
      byte 2 (omega arith),
      byte 3 (omega arith),
      byte 4 (omega arith),
      byte 5 (omega arith),
      byte 6 (omega arith),
      byte 7 (omega arith),
      byte 8 (omega arith),
      byte 9 (omega arith),
      byte 10 (omega arith),
      byte 11 (omega arith),
    )
