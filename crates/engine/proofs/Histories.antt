-- Laws of histories: what one more event changes, and what the accepted events of a window keep to.
use mathlib.Core.Path.{◌≡◌, refl, sym, ◌∙◌}
use mathlib.Core.Bool.{Bool, true, false, cond}
use mathlib.Core.List.{[], ◌∷◌}
use Prim.Native.Nat.{ℕ, zero, suc, ◌≤◌}
use native.Mathlib.Omega.{arith}
use lib.Dec.{eqb}
use lib.ListN.{length}
use borrow.Author.Tests.{leb-false}
use Rattle.event.specs.declared.Event.{Event}
use Rattle.event.specs.declared.Record.{Record}
use Rattle.ranges.specs.Ranges.{is_past, ranges_of, any_range}
use Rattle.event.proofs.Bools.{contradiction}
use Rattle.history.specs.Count.{count, last}
use Rattle.history.specs.History.{History, is}
use Rattle.history.specs.Refused.{NoneBroken}
use Rattle.history.specs.Given.{Accepted}
use Rattle.history.proofs.History.{is_newest, is_kept, is_number}
use Rattle.history.proofs.NoEffect.{is_last_unchanged}
use Rattle.history.proofs.Claim.{Inside}
use Rattle.history.proofs.Given.{inside_empty, inside_taken}
use Rattle.history.proofs.Meaning.Accepted.{Taken}

-- the last event that passes, after one more event: that one where it passes
pub last_next : (p : Event → Bool) (r : Record) (h : History) →
    last (is p (r ∷ h)) (suc (length h)) ≡ cond (p r.event) (suc (length h)) (last (is p h) (length h))
unfolding last
last_next p r h = go (p r.event) refl
  where
    go : (b : Bool) → p r.event ≡ b → last (is p (r ∷ h)) (suc (length h)) ≡ cond b (suc (length h)) (last (is p h) (length h))
    go true e = rw (is_newest p r h, e)
    go false e = is_last_unchanged p r h e

-- what an event was it still is after one more, and it was so before
pub is_still : (p : Event → Bool) (r : Record) (h : History) (i : ℕ) → is p h i ≡ true → is p (r ∷ h) i ≡ true
is_still p r h i t = is_kept p r h i (is_number p h i t).within ∙ t

pub is_before : (p : Event → Bool) (r : Record) (h : History) (i : ℕ) → is p (r ∷ h) i ≡ true → i ≤ length h → is p h i ≡ true
is_before p r h i t k = sym (is_kept p r h i k) ∙ t

-- at most m of the numbers 1 to m pass
pub count_within : (p : ℕ → Bool) (m : ℕ) → count p m ≤ m
unfolding count
count_within p zero = omega arith
count_within p (suc m) = go (p (suc m)) (count_within p m)
  where
    go : (b : Bool) → count p m ≤ m → cond b (suc (count p m)) (count p m) ≤ suc m
    go true k = omega arith
    go false k = omega arith

-- no event passes two tests that exclude one another
pub is_apart : (p q : Event → Bool) → ((e : Event) → p e ≡ true → q e ≡ true → ⊥) → (h : History) (i : ℕ) → is p h i ≡ true → is q h i ≡ true → ⊥
unfolding is
is_apart p q f [] i s t = contradiction s refl
is_apart p q f (r ∷ h) i s t = go (eqb i (suc (length h))) s t (is_apart p q f h i)
  where
    go : (b : Bool) → cond b (p r.event) (is p h i) ≡ true → cond b (q r.event) (is q h i) ≡ true → (is p h i ≡ true → is q h i ≡ true → ⊥) → ⊥
    go true s t rec = f r.event s t
    go false s t rec = rec s t

-- an event with a number of 16 bits and no range past the window
pub record Within (lines : ℕ) (h : History) (e : Event) : Type 0 where
  pub number : suc (length h) ≤ 65535
  pub ranges : any_range (is_past lines) (ranges_of e) ≡ false

-- every accepted event is one
pub accepted_within : (lines : ℕ) (h : History) (r : Record) → Accepted lines h r → Within lines h r.event
accepted_within lines h r (NoneBroken.cons a (NoneBroken.cons s (NoneBroken.cons b c))) = record { number = leb-false 65535 (length h) b; ranges = a }

-- the stores of a list of accepted events lie in the window
pub taken_inside : {lines : ℕ} {h : History} → Taken lines h → Inside lines h
taken_inside {lines} Taken.start = inside_empty lines
taken_inside {lines} (Taken.taken {h = h} {r = r} t k) = inside_taken lines h r (taken_inside t) k
