-- The transactions open and the outermost begin, in plain words.
use mathlib.Core.Path.{◌≡◌, refl, ap, ◌∙◌}
use mathlib.Core.Bool.{Bool, true, false, cond, ◌&&◌, ◌||◌}
use mathlib.Core.Logic.{◌≢◌}
use mathlib.Core.List.{[], ◌∷◌, ◌++◌}
use Prim.Native.Nat.{ℕ, zero, suc, pred, ◌+◌, ◌≤◌}
use native.Mathlib.Omega.{arith}
use lib.Dec.{eqb, leb}
use lib.ListN.{length, drop}
use borrow.Author.Tests.{eqb-true, eqb-false, eq-eqb, ne_eqb, leb-false}
use Rattle.event.specs.declared.Event.{Event}
use Rattle.event.specs.declared.Event.TheVariants.{Begin, End}
use Rattle.event.specs.declared.Record.{Record}
use Rattle.event.specs.Numbers.{kind_of}
use Rattle.event.proofs.Bools.{both}
use Rattle.history.specs.Count.{count}
use Rattle.history.specs.History.{History, is, begins, logs, ends}
use Rattle.history.specs.Transaction.{depth, depth_after, outermost}
use Rattle.history.specs.Refused.{NoneBroken, asks_open}
use Rattle.history.proofs.History.{count_newest}
use Rattle.history.proofs.Meaning.Accepted.{Taken}

-- worked: an inner begin and an inner end leave the outermost begin as it was, an end closes one transaction, and the next outermost
-- begin is another
abbrev begin : Record
begin = record { event = Begin; site = 0 }

abbrev end : Record
end = record { event = End; site = 0 }

pub worked_begins : (outermost (begin ∷ begin ∷ []) ≡ 1) × (outermost (end ∷ begin ∷ begin ∷ []) ≡ 1) × (depth (end ∷ begin ∷ begin ∷ []) ≡ 1) × (outermost (begin ∷ end ∷ begin ∷ []) ≡ 3)
unfolding depth outermost
worked_begins = (refl, refl, refl, refl)

-- an accepted list has at most 8 transactions open
depth_next : (e : Event) (d : ℕ) → d ≤ 8 → begins e && leb 8 d ≡ false → depth_after e d ≤ 8
depth_next e d k f = go (begins e) (ends e) f
  where
    go : (b c : Bool) → b && leb 8 d ≡ false → cond b (suc d) (cond c (pred d) d) ≤ 8
    go true c f = leb-false 8 d f
    go false true f = let less : pred d ≤ 8 = omega arith in less
    go false false f = k

pub taken_depth : {lines : ℕ} {h : History} → Taken lines h → depth h ≤ 8
unfolding depth
taken_depth Taken.start = omega arith
taken_depth (Taken.taken {h = h} {r = r} t (NoneBroken.cons a (NoneBroken.cons s (NoneBroken.cons b (NoneBroken.cons c (NoneBroken.cons d e)))))) =
    depth_next r.event (depth h) (taken_depth t) d

-- in it, the transactions open are the begins less the ends
abbrev pub how_many : (Event → Bool) → History → ℕ
how_many p h = count (is p h) (length h)

balance : (e : Event) (b c d : ℕ) → asks_open e && eqb d 0 ≡ false → b ≡ c + d → cond (begins e) (suc b) b ≡ cond (ends e) (suc c) c + depth_after e d
balance e b c d f k = go (begins e) refl (ends e) refl (logs e) f
  where
    less : (d ≡ 0 → ⊥) → b ≡ suc c + pred d
    less n = omega arith

    go : (x : Bool) → begins e ≡ x → (y : Bool) → ends e ≡ y → (z : Bool) → (z || y) && eqb d 0 ≡ false → cond x (suc b) b ≡ cond y (suc c) c + cond x (suc d) (cond y (pred d) d)
    go true p true q z f = absurd (omega (arith, eqb-true (kind_of e) 4 p, eqb-true (kind_of e) 6 q))
    go true p false q z f = let more : suc b ≡ c + suc d = omega arith in more
    go false p true q true f = less (eqb-false d 0 f)
    go false p true q false f = less (eqb-false d 0 f)
    go false p false q z f = k

pub begins_less_ends : {lines : ℕ} {h : History} → Taken lines h → how_many begins h ≡ how_many ends h + depth h
unfolding depth count
begins_less_ends Taken.start = refl
begins_less_ends (Taken.taken {h = h} {r = r} t (NoneBroken.cons a (NoneBroken.cons s (NoneBroken.cons b (NoneBroken.cons c d))))) =
    rw (count_newest begins r h, count_newest ends r h) (balance r.event (how_many begins h) (how_many ends h) (depth h) c (begins_less_ends t))

-- before any begin there is no outermost one
pub outermost_start : outermost [] ≡ 0
unfolding outermost
outermost_start = refl

-- while a transaction is open, the outermost begin is a begin at which none was open, and at every point since one was
pub record OutermostBegin (h : History) : Type 0 where
  pub newer : History
  pub begin : Record
  pub older : History
  pub split : h ≡ newer ++ begin ∷ older
  pub is_begin : begins begin.event ≡ true
  pub none : depth older ≡ 0
  pub number : outermost h ≡ suc (length older)
  pub since : (k : ℕ) → k ≤ length newer → depth (drop k h) ≢ 0

longer : (r : Record) (h : History) → OutermostBegin h → depth (r ∷ h) ≢ 0 → outermost (r ∷ h) ≡ outermost h → OutermostBegin (r ∷ h)
longer r h x d e =
    record {
      newer = r ∷ x.newer;
      begin = x.begin;
      older = x.older;
      split = ap (λ (l : History). r ∷ l) x.split;
      is_begin = x.is_begin;
      none = x.none;
      number = e ∙ x.number;
      since = since;
    }
  where
    since : (k : ℕ) → k ≤ suc (length x.newer) → depth (drop k (r ∷ h)) ≢ 0
    since zero k = d
    since (suc k) j = x.since k (omega arith)

newest : (r : Record) (h : History) → begins r.event ≡ true → depth h ≡ 0 → OutermostBegin (r ∷ h)
unfolding depth outermost
newest r h e z =
    record {
      newer = [];
      begin = r;
      older = h;
      split = refl;
      is_begin = e;
      none = z;
      number = ap (λ (c : Bool). cond c (suc (length h)) (outermost h)) (both e (eq-eqb (depth h) 0 z));
      since = since;
    }
  where
    since : (k : ℕ) → k ≤ 0 → depth (drop k (r ∷ h)) ≢ 0
    since zero k = rw e (λ x. omega (arith, x))
    since (suc k) j = absurd (omega arith)

pub outermost_begin : (h : History) → depth h ≢ 0 → OutermostBegin h
unfolding depth outermost
outermost_begin [] k = absurd (k refl)
outermost_begin (r ∷ h) k = go (begins r.event) refl (depth h) refl (outermost_begin h)
  where
    same : (b : Bool) → cond b (pred 0) 0 ≡ 0
    same true = refl
    same false = refl

    go : (b : Bool) → begins r.event ≡ b → (d : ℕ) → depth h ≡ d → (depth h ≢ 0 → OutermostBegin h) → OutermostBegin (r ∷ h)
    go true e zero z rec = newest r h e z
    go true e (suc d) z rec = longer r h (rec (λ y. omega (arith, z, y))) k (rw (e, z, ne_eqb (suc d) 0 (λ x. omega (arith, x))))
    go false e d z rec = longer r h (rec (λ y. k (rw (e, y) (same (ends r.event))))) k (rw e)
