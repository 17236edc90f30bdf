-- A sum of bytes, one byte more at a time.
use Rattle.std.proofs.Common.{◌≡◌, ℕ, ◌+◌, ◌*◌, ◌%◌, List, [], ◌∷◌, ◌++◌, sym, ap, ◌∙◌, arith}
use Rattle.writer_calls.specs.Changes.{sum_of}

-- a sum, and one byte more behind the others
pub sum_push : (s : List ℕ) (x b : ℕ) → sum_of x (s ++ b ∷ []) ≡ (31 * sum_of x s + b) % 65536
sum_push [] x b = λ i. (31 * x + b) % 65536
sum_push (a ∷ s) x b = sum_push s ((31 * x + a) % 65536) b

-- the same where the product wraps before the byte is added
pub sum_next : (s : List ℕ) (b : ℕ) {x : ℕ} → x ≡ sum_of 0 s → (x * 31 % 65536 + b) % 65536 ≡ sum_of 0 (s ++ b ∷ [])
sum_next s b {x} e =
    let same : (x * 31 % 65536 + b) % 65536 ≡ (31 * x + b) % 65536 = omega arith in
    same ∙ ap (λ n. (31 * n + b) % 65536) e ∙ sym (sum_push s 0 b)
