-- A list filled up with zeros, by what stands at each place.
use mathlib.Core.Path.{◌≡◌, refl, sym, ap, ap₂, ◌∙◌}
use mathlib.Core.Bool.{Bool, true, false}
use mathlib.Core.List.{List, [], ◌∷◌, ◌++◌}
use Prim.Native.Nat.{ℕ, zero, suc, ◌≤◌, ◌<◌}
use native.Mathlib.Omega.{arith}
use lib.Dec.{ltb}
use lib.ListN.{length, take, get_or, get_or-eq_default}
use lib.Seq.{take-suc, take_all}
use borrow.Author.Tests.{ltb-true, ltb-false}
use Rattle.records.specs.Record.{padded}

-- lists with the same numbers are filled up to the same list
padded_same : (n : ℕ) (a b : List ℕ) → ((k : ℕ) → get_or a k 0 ≡ get_or b k 0) → padded n a ≡ padded n b
padded_same zero a b e = refl
padded_same (suc n) a b e = ap₂ (λ (l : List ℕ) (x : ℕ). l ++ x ∷ []) (padded_same n a b e) (e n)

-- so many numbers of a list that has them
pub padded_taken : (n : ℕ) (a : List ℕ) → n ≤ length a → padded n a ≡ take n a
padded_taken zero a k = refl
padded_taken (suc n) a k = ap (λ (l : List ℕ). l ++ get_or a n 0 ∷ []) (padded_taken n a (omega (arith, k))) ∙ sym (take-suc a n 0 (omega (arith, k)))

-- the first places hold a list, and the others 0
pub filled : (n : ℕ) (all s : List ℕ) → length all ≡ n → ((k : ℕ) → k < length s → get_or all k 0 ≡ get_or s k 0) →
    ((k : ℕ) → length s ≤ k → get_or all k 0 ≡ 0) → all ≡ padded n s
filled n all s e first rest =
    sym (padded_taken n all (omega (arith, e)) ∙ take_all n all (omega (arith, e))) ∙ padded_same n all s (λ k. go k (ltb k (length s)) refl)
  where
    go : (k : ℕ) (b : Bool) → ltb k (length s) ≡ b → get_or all k 0 ≡ get_or s k 0
    go k true l = first k (ltb-true k (length s) l)
    go k false g = let z = ltb-false k (length s) g in rest k z ∙ sym (get_or-eq_default s 0 z)
