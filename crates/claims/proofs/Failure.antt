-- An assertion that does not hold is answered by "lost" or "out-of-order".
use Rattle.std.specs.Prelude.{Ok}
use mathlib.Core.Path.{◌≡◌, refl, sym, ap, ◌∙◌}
use mathlib.Core.Logic.{◌⊎◌, inl, inr, ◌↔◌}
use mathlib.Core.List.{[], ◌∷◌}
use Prim.Native.Nat.{ℕ}
use native.Mathlib.Omega.{arith}
use Rattle.event.specs.declared.Range.{Range}
use Rattle.event.specs.declared.Finding.{Finding}
use Rattle.event.specs.declared.Finding.TheVariants.{None, Holds, Lost, OutOfOrder, Unlogged, Clean, WrittenTwice, LoggedTwice, Empty}
use Rattle.event.specs.Answers.{Answer}
use Rattle.event.specs.Numbers.{fields_of}
use Rattle.event.specs.Reply.{Reply, answer_reply}
use Rattle.history.specs.History.{History, stores_byte, stores_some}
use Rattle.history.specs.Transaction.{depth, Since}
use Rattle.history.specs.Assertion.{Persists, Orders}
use Rattle.history.specs.Claim.{Ended}
use Rattle.claims.specs.Failure.{holds, LostAt, OutOfOrderAt}

-- kind 1 is the finding "holds"
kind_one : (f : Finding) → answer_reply (Ok f) ≡ holds → f ≡ Holds
kind_one f e = go f (ap kind_in e)
  where
    kind_in : Reply → ℕ
    kind_in (Reply.values (kind ∷ rest)) = kind
    kind_in (Reply.values []) = 0
    kind_in (Reply.refused number at) = 0

    go : (f : Finding) → (fields_of f).kind ≡ 1 → f ≡ Holds
    go None k = absurd (omega (arith, k))
    go Holds k = refl
    go (Lost lost moment store) k = absurd (omega (arith, k))
    go (OutOfOrder lost kept moment store) k = absurd (omega (arith, k))
    go (Unlogged lost) k = absurd (omega (arith, k))
    go (Clean lost) k = absurd (omega (arith, k))
    go (WrittenTwice lost) k = absurd (omega (arith, k))
    go (LoggedTwice lost) k = absurd (omega (arith, k))
    go Empty k = absurd (omega (arith, k))

-- it is answered exactly when it is the finding
pub holds_exactly : {answer : Answer} {f : Finding} {P : Type 0} → answer ≡ Ok f → (f ≡ Holds) ↔ P → (answer_reply answer ≡ holds) ↔ P
holds_exactly {f = f} e (to, from) = (λ k. to (kind_one f (sym (ap answer_reply e) ∙ k)), λ p. ap answer_reply (e ∙ ap Ok (from p)))

-- otherwise a persisted is lost
pub else_lost : {answer : Answer} {now : History} {n : ℕ} {B : ℕ → Type 0} {f : Finding} → answer ≡ Ok f → Persists now n B f →
    (answer_reply answer ≡ holds) ⊎ LostAt now n B (answer_reply answer)
else_lost e (Persists.holds k) = inl (ap answer_reply e)
else_lost e (Persists.lost {b = b} k s) = inr (record { lost = b; named = ap answer_reply e; lowest = k; shown = s })

-- an ordered out of order
pub else_out_of_order : {answer : Answer} {now : History} {n : ℕ} {a b : Range} {f : Finding} → answer ≡ Ok f → Orders now n a b f →
    (answer_reply answer ≡ holds) ⊎ OutOfOrderAt now n a b (answer_reply answer)
else_out_of_order e (Orders.holds k) = inl (ap answer_reply e)
else_out_of_order e (Orders.out_of_order {kept = kept} {lost = lost} k l s p) =
    inr (record { kept = kept; lost = lost; named = ap answer_reply e; lowest_kept = k; lowest_lost = l; shown = s; keeps = p })

-- and an outermost end with a store since its begin is lost
pub else_end_lost : {answer : Answer} {h now : History} {n : ℕ} {f : Finding} → answer ≡ Ok f → Ended h now n f → depth h ≡ 1 → Since h stores_some →
    (answer_reply answer ≡ holds) ⊎ LostAt now n (λ b. Since h (stores_byte b)) (answer_reply answer)
else_end_lost e (Ended.inner d) outermost some = absurd (d outermost)
else_end_lost e (Ended.empty d none) outermost some = absurd (none some)
else_end_lost e (Ended.outermost d s k) outermost some = else_lost e k
