-- The test of a pair.
use mathlib.Core.Path.{◌≡◌, refl}
use mathlib.Core.Bool.{Bool, true, false, not, ◌&&◌, ◌||◌, or-false}
use mathlib.Core.List.{List}
use Prim.Native.Nat.{ℕ, zero, suc}
use native.Mathlib.Omega.{arith}
use lib.Dec.{eqb, ltb}
use borrow.Author.Tests.{eq-eqb, ne_eqb, le-ltb}
use Rattle.tables.specs.Table.{entry}
use Rattle.pairs.specs.Pairs.{is_broken, broken_pair}

-- it says the same with no branch: a later store is a store, and so is the kept one
pub no_branch : (ks ls : ℕ) (line word : Bool) (fence : ℕ) →
    not (eqb ks 0) && (line && (ltb ks ls || eqb ks ls && not word) || not line && (not (eqb ls 0) && (ltb fence ls || ltb ks fence))) ≡
    is_broken ks ls line word fence
no_branch zero ls line word fence = refl
no_branch (suc ks) ls false word fence = rw (ne_eqb (suc ks) 0 (λ z. absurd (omega arith)))
no_branch (suc ks) zero true word fence = rw (ne_eqb (suc ks) 0 (λ z. absurd (omega arith)), le-ltb (suc ks) 0 (omega arith))
no_branch (suc ks) (suc ls) true word fence =
    rw (ne_eqb (suc ks) 0 (λ z. absurd (omega arith)), ne_eqb (suc ls) 0 (λ z. absurd (omega arith))) (or-false (ltb (suc ks) (suc ls) || eqb (suc ks) (suc ls) && not word))

-- no pair breaks whose kept byte was never stored to
pub never_broken : (stored fenced : List ℕ) (kept : ℕ) → entry stored kept ≡ 0 → (lost : ℕ) → broken_pair stored fenced kept lost ≡ false
never_broken stored fenced kept e lost = rw (eq-eqb (entry stored kept) 0 e)
