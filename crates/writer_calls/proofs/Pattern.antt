-- Bytes of a pattern.
use Rattle.std.proofs.Common.{◌≡◌, ℕ, zero, suc, ◌+◌, ◌*◌, ◌%◌, [], ◌∷◌, length, arith, length-append}
use Rattle.writer_calls.specs.Writing.{pattern}

-- as many as were asked for
pub pattern_length : (from step n : ℕ) → length (pattern from step n) ≡ n
pattern_length from step zero = λ i. zero
pattern_length from step (suc n) = omega (arith, length-append (pattern from step n) ((from + step * n) % 256 ∷ []), pattern_length from step n)
