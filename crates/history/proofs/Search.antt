-- What a search from the front finds: the lowest number with a property, and the lowest pair.
use mathlib.Core.Path.{◌≡◌, refl}
use mathlib.Core.Bool.{Bool, true, false, cond}
use mathlib.Core.Option.{Option, none, some}
use Prim.Native.Nat.{ℕ, zero, suc, ◌+◌, ◌≤◌, ◌<◌}
use native.Mathlib.Omega.{arith}
use native.Mathlib.Decide.{ℕ_discrete as dec_eq}
use Rattle.event.specs.declared.Range.{Range}
use Rattle.event.proofs.Bools.{contradiction}
use Rattle.history.specs.Found.{lowest, lowest_in, lowest_pair, or_pair, Pair}
use Rattle.history.specs.Assertion.{Lowest}

-- the lowest number with the property, or that none has it
pub data Least (P : ℕ → Type 0) : Option ℕ → Type 0 where
  absent : ((x : ℕ) → P x → ⊥) → Least P none
  present : {x : ℕ} → Lowest P x → Least P (some x)

-- the test decides the property of the n numbers from x on, and no other number has it
pub record Decides (p : ℕ → Bool) (P : ℕ → Type 0) (x n : ℕ) : Type 0 where
  pub sound : (z : ℕ) → x ≤ z → z < x + n → p z ≡ true → P z
  pub complete : (z : ℕ) → P z → p z ≡ true
  pub from : (z : ℕ) → P z → x ≤ z
  pub to : (z : ℕ) → P z → z < x + n

-- a number with the property where the test fails at the first is one of the rest
fewer : {p : ℕ → Bool} {P : ℕ → Type 0} {x n : ℕ} → Decides p P x (suc n) → p x ≡ false → Decides p P (suc x) n
fewer {p} {P} {x} {n} d e =
    record {
      sound = λ z h k. d.sound z (omega arith) (omega arith);
      complete = d.complete;
      from = λ z y. above z y (dec_eq z x);
      to = λ z y. omega (arith, d.to z y);
    }
  where
    above : (z : ℕ) → P z → Dec (z ≡ x) → suc x ≤ z
    above z y (yes k) = absurd (contradiction (rw k at (d.complete z y)) e)
    above z y (no k) = omega (arith, d.from z y)

pub least : (p : ℕ → Bool) (P : ℕ → Type 0) (x n : ℕ) → Decides p P x n → Least P (lowest p x n)
unfolding lowest
least p P x zero d = absent (λ z y. omega (arith, d.from z y, d.to z y))
least p P x (suc n) d = go (p x) refl (λ e. least p P (suc x) n (fewer d e))
  where
    go : (b : Bool) → p x ≡ b → (p x ≡ false → Least P (lowest p (suc x) n)) → Least P (cond b (some x) (lowest p (suc x) n))
    go true e rest = present (record { has = d.sound x (omega arith) (omega arith) e; lower = λ y k z. omega (arith, d.from y z) })
    go false e rest = rest e

-- the pair with the lowest first number that has a partner, and its lowest partner; or that there is none
pub data LeastPair (P : ℕ → ℕ → Type 0) : Option Pair → Type 0 where
  absent : ((kept lost : ℕ) → P kept lost → ⊥) → LeastPair P none
  present : {kept lost : ℕ} → Lowest (λ x. (y : ℕ) × P x y) kept → Lowest (P kept) lost → LeastPair P (some (record { kept = kept; lost = lost }))

pub least_pair : (p : ℕ → ℕ → Bool) (a : Range) (P : ℕ → ℕ → Type 0) (x n : ℕ) →
    ((kept : ℕ) → x ≤ kept → kept < x + n → Least (P kept) (lowest_in (p kept) a)) →
    ((kept lost : ℕ) → P kept lost → x ≤ kept) → ((kept lost : ℕ) → P kept lost → kept < x + n) →
    LeastPair P (lowest_pair p a x n)
unfolding lowest_pair
least_pair p a P x zero inner from to = absent (λ k l y. omega (arith, from k l y, to k l y))
least_pair p a P x (suc n) inner from to =
    go (lowest_in (p x) a) (inner x (omega arith) (omega arith))
    (λ none_here. least_pair p a P (suc x) n (λ k h j. inner k (omega arith) (omega arith)) (λ k l y. above k l y none_here (dec_eq k x)) (λ k l y. omega (arith, to k l y)))
  where
    above : (k l : ℕ) → P k l → ((l : ℕ) → P x l → ⊥) → Dec (k ≡ x) → suc x ≤ k
    above k l y f (yes e) = absurd (f l (rw e at y))
    above k l y f (no e) = omega (arith, from k l y)

    go : (o : Option ℕ) → Least (P x) o → (((l : ℕ) → P x l → ⊥) → LeastPair P (lowest_pair p a (suc x) n)) → LeastPair P (or_pair x o (lowest_pair p a (suc x) n))
    go none (absent f) rest = rest f
    go (some l) (present y) rest = present (record { has = (l, y.has); lower = λ k j z. omega (arith, from k z.0 z.1) }) y
