-- Transactions after two neighbours changed places: how many are open, where the outermost began, and what has happened since.
use mathlib.Core.Path.{◌≡◌, refl, sym, ◌∙◌}
use mathlib.Core.Bool.{Bool, true, false, cond, ◌&&◌}
use mathlib.Core.List.{[], ◌∷◌}
use Prim.Native.Nat.{ℕ, suc, ◌≤◌}
use native.Mathlib.Omega.{arith}
use lib.Dec.{eqb, ltb}
use lib.ListN.{length}
use Rattle.event.specs.declared.Event.{Event}
use Rattle.event.specs.declared.Record.{Record}
use Rattle.history.specs.Count.{last}
use Rattle.history.specs.History.{History, is, begins}
use Rattle.history.specs.Transaction.{depth, outermost, Since}
use Rattle.history.specs.Swap.{MaySwap, exchanged}
use Rattle.history.proofs.Warning.{since_is, is_since}
use Rattle.history.proofs.Exchange.{less, stays, lower_moves}
use Rattle.history.proofs.Swap.{Quiet, quiet, Swapped, flip, same_length, both_within, moved}

-- tests that imply each other
same_test : (x y : Bool) → (x ≡ true → y ≡ true) → (y ≡ true → x ≡ true) → x ≡ y
same_test true y f g = sym (f refl)
same_test false true f g = g refl
same_test false false f g = refl

outermost_within : (h : History) → outermost h ≤ length h
unfolding outermost
outermost_within [] = omega arith
outermost_within (r ∷ h) = go (begins r.event && eqb (depth h) 0) (outermost_within h)
  where
    go : (c : Bool) → outermost h ≤ length h → cond c (suc (length h)) (outermost h) ≤ suc (length h)
    go true k = omega arith
    go false k = omega arith

-- either way round
pub may_flip : {a b : Event} → MaySwap a b → MaySwap b a
may_flip m = record { first = m.second; second = m.first; apart = λ l t u. m.apart l u t }

module _ (a b : Record) (older : History) (m : MaySwap a.event b.event) where
  -- the number of a, and where the exchange takes a number
  abbrev i : ℕ
  i = suc (length older)

  abbrev ex : ℕ → ℕ
  ex = exchanged (suc (length older))

  qa : Quiet a.event
  qa = quiet a.event m.first

  qb : Quiet b.event
  qb = quiet b.event m.second

  pub depth_same : {h k : History} → Swapped a b older h k → depth k ≡ depth h
  unfolding depth
  depth_same Swapped.two = rw (qa.no_begin, qa.no_end, qb.no_begin, qb.no_end)
  depth_same (Swapped.later r s) = rw (depth_same s)

  begin_same : {h k : History} → Swapped a b older h k → outermost k ≡ outermost h
  unfolding outermost
  begin_same Swapped.two = rw (qa.no_begin, qb.no_begin)
  begin_same (Swapped.later r s) = rw (depth_same s, same_length a b older s, begin_same s)

  begin_stays : {h k : History} → Swapped a b older h k → ex (outermost h) ≡ outermost h
  unfolding outermost
  begin_stays Swapped.two = rw (qa.no_begin, qb.no_begin) (stays i (λ e. omega (arith, outermost_within older, e)) (λ e. omega (arith, outermost_within older, e)))
  begin_stays (Swapped.later {h = h} r s) = go (begins r.event && eqb (depth h) 0) (begin_stays s)
    where
      go : (c : Bool) → ex (outermost h) ≡ outermost h → ex (cond c (suc (length h)) (outermost h)) ≡ cond c (suc (length h)) (outermost h)
      go true e = stays i (λ e. omega (arith, both_within a b older s, e)) (λ e. omega (arith, both_within a b older s, e))
      go false e = e

  since_moved : {h k : History} → Swapped a b older h k → (p : Event → Bool) → Since h p → Since k p
  since_moved {h} s p x =
      record {
        number = ex x.number;
        later = rw (begin_same s) (rw (begin_stays s) at (less i x.later apart));
        passes = moved a b older p s x.number ∙ x.passes;
      }
    where
      apart : outermost h ≡ i → x.number ≡ suc i → ⊥
      apart e f = let g : ex i ≡ i = rw e at (begin_stays s) in omega (arith, g, lower_moves i)

-- for every test, whether an event since the outermost begin passes it
pub since_same : (a b : Record) (older : History) → MaySwap a.event b.event → {h k : History} → Swapped a b older h k → (p : Event → Bool) →
    ltb (outermost k) (last (is p k) (length k)) ≡ ltb (outermost h) (last (is p h) (length h))
since_same a b older m {h} {k} s p =
    same_test _ _
    (λ e. is_since 0 h p (since_moved b a older (may_flip m) (flip s) p (since_is 0 k p e)))
    (λ e. is_since 0 k p (since_moved a b older m s p (since_is 0 h p e)))
