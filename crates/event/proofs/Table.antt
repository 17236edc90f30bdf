-- The rule of a table, proved at all of its entries by one test that is computed, one entry after the other.
-- Assumes nothing.
use mathlib.Core.Path.{◌≡◌, ◌∙◌, sym, ap}
use mathlib.Core.Bool.{Bool, true, ◌&&◌}
use mathlib.Core.List.{List, [], ◌∷◌}
use Prim.Native.Nat.{ℕ, zero, suc, ◌+◌, ◌<◌}
use native.Mathlib.Nat.{add-zero, zero-add, add-suc, suc-add, le_of_suc-le-suc, not-suc-le-zero}
use lib.Dec.{T, eqb}
use lib.ListN.{length, get_or}
use borrow.Author.Tests.{eqb-true}
use Rattle.event.proofs.Bools.{computed, and_left, and_right}

-- each entry is what the rule gives for its place, counted from i
abbrev pub every : (ℕ → ℕ) → ℕ → List ℕ → Bool
every rule i [] = true
every rule i (x ∷ xs) = eqb x (rule i) && every rule (suc i) xs

from : (rule : ℕ → ℕ) (xs : List ℕ) (i : ℕ) → every rule i xs ≡ true → (k : ℕ) → k < length xs → get_or xs k 0 ≡ rule (i + k)
from rule [] i t k h = absurd (not-suc-le-zero h)
from rule (x ∷ xs) i t zero h = eqb-true x (rule i) (and_left (eqb x (rule i)) (every rule (suc i) xs) t) ∙ ap rule (sym (add-zero i))
from rule (x ∷ xs) i t (suc k) h =
    from rule xs (suc i) (and_right (eqb x (rule i)) (every rule (suc i) xs) t) k (le_of_suc-le-suc h)
    ∙ ap rule (suc-add i k ∙ sym (add-suc i k))

-- where the test passes, the entry at k is what the rule gives for k
pub at : (rule : ℕ → ℕ) (xs : List ℕ) → T (every rule 0 xs) → (k : ℕ) → k < length xs → get_or xs k 0 ≡ rule k
at rule xs t k h = from rule xs 0 (computed (every rule 0 xs) t) k h ∙ ap rule (zero-add k)
