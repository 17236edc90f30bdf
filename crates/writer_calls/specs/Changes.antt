-- The bytes that differ between two slices. Bytes past an end count as 0.
use Rattle.std.specs.Prelude.{ℕ, zero, suc, ◌+◌, ◌*◌, ◌%◌, cond, List, [], ◌∷◌, ◌==◌, slice_index}

-- of n bytes from place i on, the first that differs; the place behind them where none does
abbrev pub first_change : (n i : ℕ) → (before after : List ℕ) → ℕ
first_change zero i before after = i
first_change (suc n) i before after = cond (slice_index before i == slice_index after i) (first_change n (suc i) before after) i

-- of the first n bytes, the place behind the last that differs; 0 where none does
abbrev pub last_change : (n : ℕ) → (before after : List ℕ) → ℕ
last_change zero before after = zero
last_change (suc n) before after = cond (slice_index before n == slice_index after n) (last_change n before after) (suc n)

-- each byte is added to 31 times the sum before it, in 16 bits
abbrev pub sum_of : ℕ → List ℕ → ℕ
sum_of x [] = x
sum_of x (b ∷ rest) = sum_of ((31 * x + b) % 65536) rest
