-- "Holds" is said of an assertion, or of an outermost end, exactly when no allowed crash image of a moment that it covers breaks it.
use mathlib.Core.Path.{◌≡◌, subst}
use mathlib.Core.Bool.{true}
use mathlib.Core.Logic.{◌↔◌}
use mathlib.Core.List.{◌∷◌}
use Prim.Native.Nat.{ℕ, suc}
use native.Mathlib.Omega.{arith}
use lib.ListN.{length}
use Rattle.event.specs.declared.Range.{Range}
use Rattle.event.specs.declared.Event.{Event}
use Rattle.event.specs.declared.Event.TheVariants.{End, Persisted, Ordered}
use Rattle.event.specs.declared.Record.{Record}
use Rattle.event.specs.declared.Finding.{Finding}
use Rattle.event.specs.declared.Finding.TheVariants.{Holds}
use Rattle.ranges.specs.Ranges.{covers}
use Rattle.history.specs.History.{History, stores_byte, stores_some}
use Rattle.history.specs.View.{of_history}
use Rattle.history.specs.Found.{finding_by}
use Rattle.history.specs.Assertion.{BrokenByte, Persists, BrokenPair, Orders}
use Rattle.history.specs.Claim.{Ended, ClaimOf}
use Rattle.history.specs.Transaction.{depth, Since}
use Rattle.history.proofs.Claim.{Inside, finding_claim}
use Rattle.history.proofs.Unique.{one_persisted, one_order, one_end}

persists_holds : {now : History} {n : ℕ} {B : ℕ → Type 0} {f : Finding} → Persists now n B f → f ≡ Holds → (b : ℕ) → BrokenByte now n B b → ⊥
persists_holds (Persists.holds k) e = k
persists_holds (Persists.lost x y) e = let z : ◌≡◌ {A = ℕ} 0 1 = cc in absurd (omega arith)

orders_holds : {now : History} {n : ℕ} {a b : Range} {f : Finding} → Orders now n a b f → f ≡ Holds → (kept lost : ℕ) → BrokenPair now n a b kept lost → ⊥
orders_holds (Orders.holds k) e = k
orders_holds (Orders.out_of_order x y u v) e = let z : ◌≡◌ {A = ℕ} 0 1 = cc in absurd (omega arith)

ended_holds_none : {h now : History} {n : ℕ} {f : Finding} → Ended h now n f → f ≡ Holds → (b : ℕ) → BrokenByte now n (λ b. Since h (stores_byte b)) b → ⊥
ended_holds_none (Ended.inner d) e = let z : ◌≡◌ {A = ℕ} 0 1 = cc in absurd (omega arith)
ended_holds_none (Ended.empty d s) e = let z : ◌≡◌ {A = ℕ} 0 1 = cc in absurd (omega arith)
ended_holds_none (Ended.outermost d s x) e = persists_holds x e

module _ (lines : ℕ) (h : History) (inside : Inside lines h) (r : Record) where
  pub claimed : {e : Event} → r.event ≡ e → ClaimOf h (r ∷ h) (suc (length h)) e (finding_by (of_history lines h) r.event)
  claimed k = subst (λ (e : Event). ClaimOf h (r ∷ h) (suc (length h)) e (finding_by (of_history lines h) r.event)) k (finding_claim lines h inside r)

  pub persisted_holds : {a : Range} → r.event ≡ Persisted a →
      (finding_by (of_history lines h) r.event ≡ Holds) ↔ ((b : ℕ) → BrokenByte (r ∷ h) (suc (length h)) (λ b. covers a b ≡ true) b → ⊥)
  persisted_holds k = (persists_holds (claimed k), λ f. one_persisted (claimed k) (Persists.holds f))

  pub ordered_holds : {a b : Range} → r.event ≡ Ordered a b →
      (finding_by (of_history lines h) r.event ≡ Holds) ↔ ((kept lost : ℕ) → BrokenPair (r ∷ h) (suc (length h)) a b kept lost → ⊥)
  ordered_holds k = (orders_holds (claimed k), λ f. one_order (claimed k) (Orders.holds f))

  -- an outermost end with a store since its begin
  pub end_holds : r.event ≡ End → depth h ≡ 1 → Since h stores_some →
      (finding_by (of_history lines h) r.event ≡ Holds) ↔ ((b : ℕ) → BrokenByte (r ∷ h) (suc (length h)) (λ b. Since h (stores_byte b)) b → ⊥)
  end_holds k d s = (ended_holds_none (claimed k), λ f. one_end (claimed k) (Ended.outermost d s (Persists.holds f)))
