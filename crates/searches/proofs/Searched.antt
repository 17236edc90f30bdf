-- What a search found, by what it answered.
use mathlib.Core.Path.{◌≡◌, refl}
use mathlib.Core.Bool.{Bool, true, false, cond}
use mathlib.Core.Option.{Option, none, some}
use Prim.Native.Nat.{ℕ, zero, suc, ◌+◌, ◌≤◌, ◌<◌}
use native.Mathlib.Omega.{arith}
use Rattle.history.specs.Found.{lowest}
use Rattle.std.specs.Prelude.{Option as Answer}
use Rattle.std.specs.Prelude.{Some, None}
use Rattle.searches.specs.Tests.{searched, found_by}

-- nothing
pub found_none : (found : Option ℕ) {s : Answer ℕ} → s ≡ None → s ≡ searched found → found ≡ none
unfolding searched
found_none none e f = refl
found_none (some x) e f = let z : ◌≡◌ {A = ℕ} 0 1 = cc in absurd (omega arith)

-- a byte or a line
pub found_some : (found : Option ℕ) {s : Answer ℕ} {x : ℕ} → s ≡ Some x → s ≡ searched found → found ≡ some x
unfolding searched
found_some none e f = let z : ◌≡◌ {A = ℕ} 0 1 = cc in absurd (omega arith)
found_some (some y) e f = cc

-- either, by the answer
pub found_by_lem : (found : Option ℕ) {s : Answer ℕ} → s ≡ searched found → found_by s ≡ found
unfolding searched
found_by_lem none e = rw e
found_by_lem (some x) e = rw e

-- what is found is within what was searched
pub lowest_below : (p : ℕ → Bool) (n x : ℕ) {y : ℕ} → lowest p x n ≡ some y → y < x + n
unfolding lowest
lowest_below p zero x e = let z : ◌≡◌ {A = ℕ} 0 1 = cc in absurd (omega arith)
lowest_below p (suc n) x {y} e = go (p x) e (lowest_below p n (suc x))
  where
    go : (t : Bool) → cond t (some x) (lowest p (suc x) n) ≡ some y → (lowest p (suc x) n ≡ some y → y < suc x + n) → y < x + suc n
    go true k rest = let same : x ≡ y = cc in omega arith
    go false k rest = omega (arith, rest k)

-- nothing is found where none passes
pub lowest_none : (p : ℕ → Bool) (n x : ℕ) → ((k : ℕ) → x ≤ k → k < x + n → p k ≡ false) → lowest p x n ≡ none
unfolding lowest
lowest_none p zero x h = refl
lowest_none p (suc n) x h = rw (h x (omega arith) (omega arith)) (lowest_none p n (suc x) (λ k a b. h k (omega arith) (omega arith)))

-- tests that agree on these places find the same
pub lowest_same : (p q : ℕ → Bool) (n x : ℕ) → ((k : ℕ) → x ≤ k → k < x + n → p k ≡ q k) → lowest p x n ≡ lowest q x n
unfolding lowest
lowest_same p q zero x same = refl
lowest_same p q (suc n) x same =
    rw (same x (omega arith) (omega arith), lowest_same p q n (suc x) (λ k a b. same k (omega arith) (omega arith)))
