-- The first byte that differs between two slices, looked for place by place.
use Rattle.std.proofs.Common.{◌≡◌, ℕ, suc, ◌+◌, ◌-◌, ◌<◌, List, length, get_or, add-one, arith, eq-eqb}
use Rattle.writer_calls.specs.Changes.{first_change}

-- where the bytes at a place are the same, it is behind them
pub first_same : (before after : List ℕ) (i : ℕ) → i < length after → get_or before i 0 ≡ get_or after i 0 →
    first_change (length after - i) i before after ≡ first_change (length after - (i + 1)) (i + 1) before after
first_same before after i k e =
    let more : length after - i ≡ suc (length after - (i + 1)) = omega arith in
    rw (more, eq-eqb (get_or before i 0) (get_or after i 0) e, add-one)
