-- A number and the next one exchanged.
use mathlib.Core.Path.{◌≡◌, refl, sym, ap, ◌∙◌}
use mathlib.Core.Logic.{◌≢◌}
use Prim.Native.Nat.{ℕ, suc, ◌≤◌, ◌<◌}
use native.Mathlib.Omega.{arith}
use native.Mathlib.Decide.{dec_le, dec_lt, ℕ_discrete as dec_eq}
use lib.Dec.{eqb, leb, ltb}
use borrow.Author.Tests.{eq-eqb, ne_eqb, lt-ltb, le-ltb, le-leb, lt-leb}
use Rattle.history.specs.Swap.{exchanged}

-- where exchanging i and the next number takes n
pub data Place (i n y : ℕ) : Type 0 where
  lower : n ≡ i → y ≡ suc i → Place i n y
  upper : n ≡ suc i → y ≡ i → Place i n y
  other : n ≢ i → n ≢ suc i → y ≡ n → Place i n y

pub place : (i n : ℕ) → Place i n (exchanged i n)
unfolding exchanged
place i n = go (dec_eq n i) (dec_eq n (suc i))
  where
    go : Dec (n ≡ i) → Dec (n ≡ suc i) → Place i n (exchanged i n)
    go (yes e) d = Place.lower e (rw (eq-eqb n i e))
    go (no k) (yes e) = Place.upper e (rw (ne_eqb n i k, eq-eqb n (suc i) e))
    go (no k) (no j) = Place.other k j (rw (ne_eqb n i k, ne_eqb n (suc i) j))

module _ (i : ℕ) where
  -- the two are exchanged, and every other number stays
  pub lower_moves : exchanged i i ≡ suc i
  unfolding exchanged
  lower_moves = rw (eq-eqb i i refl)

  pub upper_moves : exchanged i (suc i) ≡ i
  unfolding exchanged
  upper_moves = rw (ne_eqb (suc i) i (λ e. omega arith), eq-eqb (suc i) (suc i) refl)

  pub stays : {n : ℕ} → n ≢ i → n ≢ suc i → exchanged i n ≡ n
  unfolding exchanged
  stays {n} a b = rw (ne_eqb n i a, ne_eqb n (suc i) b)

  -- twice is not at all
  pub twice : (n : ℕ) → exchanged i (exchanged i n) ≡ n
  twice n = go (place i n) (place i (exchanged i n))
    where
      go : {y z : ℕ} → Place i n y → Place i y z → z ≡ n
      go (Place.lower e f) (Place.lower g h) = omega arith
      go (Place.lower e f) (Place.upper g h) = omega arith
      go (Place.lower e f) (Place.other g h k) = absurd (h f)
      go (Place.upper e f) (Place.lower g h) = omega arith
      go (Place.upper e f) (Place.upper g h) = omega arith
      go (Place.upper e f) (Place.other g h k) = absurd (g f)
      go (Place.other a b f) (Place.lower g h) = absurd (a (sym f ∙ g))
      go (Place.other a b f) (Place.upper g h) = absurd (b (sym f ∙ g))
      go (Place.other a b f) (Place.other g h k) = omega arith

  -- the order of two numbers is kept, unless they are the two
  pub less : {m n : ℕ} → m < n → (m ≡ i → n ≡ suc i → ⊥) → exchanged i m < exchanged i n
  less {m} {n} k two = go (place i m) (place i n)
    where
      go : {y z : ℕ} → Place i m y → Place i n z → y < z
      go (Place.lower e f) (Place.lower g h) = absurd (omega arith)
      go (Place.lower e f) (Place.upper g h) = absurd (two e g)
      go (Place.lower e f) (Place.other g h l) = omega arith
      go (Place.upper e f) (Place.lower g h) = absurd (omega arith)
      go (Place.upper e f) (Place.upper g h) = absurd (omega arith)
      go (Place.upper e f) (Place.other g h l) = omega arith
      go (Place.other a b f) (Place.lower g h) = omega arith
      go (Place.other a b f) (Place.upper g h) = omega arith
      go (Place.other a b f) (Place.other g h l) = omega arith

  -- so the tests on two numbers are those on the numbers that they become
  pub same_eq : (m n : ℕ) → eqb (exchanged i m) (exchanged i n) ≡ eqb m n
  same_eq m n = go (dec_eq m n)
    where
      go : Dec (m ≡ n) → eqb (exchanged i m) (exchanged i n) ≡ eqb m n
      go (yes e) = rw (eq-eqb m n e) (eq-eqb _ _ (ap (exchanged i) e))
      go (no k) = rw (ne_eqb m n k) (ne_eqb _ _ (λ e. k (sym (twice m) ∙ ap (exchanged i) e ∙ twice n)))

  pub same_less : (m n : ℕ) → (m ≡ i → n ≡ suc i → ⊥) → (n ≡ i → m ≡ suc i → ⊥) → ltb (exchanged i m) (exchanged i n) ≡ ltb m n
  same_less m n f g = go (dec_lt m n) (dec_lt n m)
    where
      go : Dec (m < n) → Dec (n < m) → ltb (exchanged i m) (exchanged i n) ≡ ltb m n
      go (yes k) d = rw (lt-ltb m n k) (lt-ltb _ _ (less k f))
      go (no k) (yes j) = rw (le-ltb m n (omega arith)) (le-ltb (exchanged i m) (exchanged i n) (omega (arith, less j g)))
      go (no k) (no j) =
          let e : m ≡ n = omega arith in
          rw (le-ltb m n (omega arith)) (le-ltb (exchanged i m) (exchanged i n) (omega (arith, ap (exchanged i) e)))

  -- and so is the test whether a number that is none of the two comes first
  pub same_leb : (c n : ℕ) → c ≢ i → c ≢ suc i → leb c (exchanged i n) ≡ leb c n
  same_leb c n f g = go (place i n)
    where
      across : leb c (suc i) ≡ leb c i
      across = by (dec_le c i)
        where
          by : Dec (c ≤ i) → leb c (suc i) ≡ leb c i
          by (yes k) = rw (le-leb c i k) (le-leb c (suc i) (omega arith))
          by (no k) = rw (lt-leb c i (omega arith)) (lt-leb c (suc i) (omega arith))

      go : {y : ℕ} → Place i n y → leb c y ≡ leb c n
      go (Place.lower e k) = rw (e, k) across
      go (Place.upper e k) = rw (e, k) (sym across)
      go (Place.other u v k) = rw k

-- 0 is no event, and stays 0
pub zero_stays : (n : ℕ) → exchanged (suc n) 0 ≡ 0
zero_stays n = stays (suc n) (λ e. omega arith) (λ e. omega arith)

pub zero_same : (n m : ℕ) → eqb (exchanged (suc n) m) 0 ≡ eqb m 0
zero_same n m = ap (eqb (exchanged (suc n) m)) (sym (zero_stays n)) ∙ same_eq (suc n) m 0
