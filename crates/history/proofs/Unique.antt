-- A claim admits one finding only.
use mathlib.Core.Path.{◌≡◌, refl, sym, ap, subst, ◌∙◌}
use mathlib.Core.List.{◌∷◌}
use Prim.Native.Nat.{ℕ, suc, ◌≤◌}
use native.Mathlib.Omega.{arith}
use native.Mathlib.Decide.{dec_le}
use lib.ListN.{length}
use Rattle.event.specs.declared.Range.{Range}
use Rattle.event.specs.declared.Event.{Event}
use Rattle.event.specs.declared.Event.TheVariants.{Store, WriteBack, Fence, Begin, Log, End, Persisted, Ordered}
use Rattle.event.specs.declared.Record.{Record}
use Rattle.event.specs.declared.Finding.{Finding}
use Rattle.event.specs.declared.Finding.TheVariants.{Lost, Clean, WrittenTwice}
use Rattle.window.specs.Window.{line_start}
use Rattle.history.specs.History.{History}
use Rattle.history.specs.Interval.{last_store}
use Rattle.history.specs.Assertion.{Lowest, Persists, BrokenPair, HasPartner, Orders}
use Rattle.history.specs.Warning.{Warned, NeverStored, WrittenBack}
use Rattle.history.specs.Claim.{Ended, ClaimOf, Claim}

-- two lowest numbers are one
lowest_one : (P : ℕ → Type 0) (x y : ℕ) → Lowest P x → Lowest P y → x ≡ y
lowest_one P x y a b = go (dec_le x y) (dec_le y x)
  where
    go : Dec (x ≤ y) → Dec (y ≤ x) → x ≡ y
    go (yes h) (yes k) = omega arith
    go (yes h) (no k) = absurd (b.lower x (omega arith) a.has)
    go (no h) d = absurd (a.lower y (omega arith) b.has)

one_warning : {P : ℕ → Type 0} {warning : ℕ → Finding} {f g : Finding} → Warned P warning f → Warned P warning g → f ≡ g
one_warning (Warned.none a) (Warned.none b) = refl
one_warning (Warned.none a) (Warned.warns {x = x} b) = absurd (a x b.has)
one_warning (Warned.warns {x = x} a) (Warned.none b) = absurd (b x a.has)
one_warning {P = P} {warning = warning} (Warned.warns {x = x} a) (Warned.warns {x = y} b) = ap warning (lowest_one P x y a b)

pub one_persisted : {now : History} {n : ℕ} {B : ℕ → Type 0} {f g : Finding} → Persists now n B f → Persists now n B g → f ≡ g
one_persisted (Persists.holds a) (Persists.holds b) = refl
one_persisted (Persists.holds a) (Persists.lost {b = x} b c) = absurd (a x b.has)
one_persisted (Persists.lost {b = x} b c) (Persists.holds a) = absurd (a x b.has)
one_persisted {now = now} {n = n} (Persists.lost {b = x} a c) (Persists.lost {b = y} b d) = ap (λ (z : ℕ). Lost z n (last_store now z)) (lowest_one _ x y a b)

pub one_order : {now : History} {n : ℕ} {a b : Range} {f g : Finding} → Orders now n a b f → Orders now n a b g → f ≡ g
one_order (Orders.holds x) (Orders.holds y) = refl
one_order (Orders.holds x) (Orders.out_of_order {kept = k} {lost = l} y z u v) = absurd (x k l z.has)
one_order (Orders.out_of_order {kept = k} {lost = l} y z u v) (Orders.holds x) = absurd (x k l z.has)
one_order {now = now} {n = n} {a = a} {b = b} (Orders.out_of_order {kept = k} {lost = l} x y u v) (Orders.out_of_order {kept = i} {lost = j} x' y' u' v') =
    let first : k ≡ i = lowest_one (HasPartner now n a b) k i x x' in
    let second : l ≡ j = lowest_one (BrokenPair now n a b i) l j (subst (λ (z : ℕ). Lowest (BrokenPair now n a b z) l) first y) y' in
    rw (first, second)

one_back : {h : History} {a : Range} {f g : Finding} → WrittenBack h a f → WrittenBack h a g → f ≡ g
one_back (WrittenBack.useful x) (WrittenBack.useful y) = refl
one_back (WrittenBack.useful x) (WrittenBack.clean {l = l} y z) = absurd (x l y.has)
one_back (WrittenBack.useful x) (WrittenBack.twice {l = l} y z) = absurd (x l y.has)
one_back (WrittenBack.clean {l = l} y z) (WrittenBack.useful x) = absurd (x l y.has)
one_back (WrittenBack.clean {l = l} x y) (WrittenBack.clean {l = m} z w) = ap (λ (i : ℕ). Clean (line_start i)) (lowest_one _ l m x z)
one_back {h = h} (WrittenBack.clean {l = l} x y) (WrittenBack.twice {l = m} z w) = absurd (subst (λ (i : ℕ). NeverStored h i) (lowest_one _ l m x z) y w.store w.is_store)
one_back (WrittenBack.twice {l = l} y z) (WrittenBack.useful x) = absurd (x l y.has)
one_back {h = h} (WrittenBack.twice {l = m} z w) (WrittenBack.clean {l = l} x y) = absurd (subst (λ (i : ℕ). NeverStored h i) (lowest_one _ l m x z) y w.store w.is_store)
one_back (WrittenBack.twice {l = l} x y) (WrittenBack.twice {l = m} z w) = ap (λ (i : ℕ). WrittenTwice (line_start i)) (lowest_one _ l m x z)

pub one_end : {h now : History} {n : ℕ} {f g : Finding} → Ended h now n f → Ended h now n g → f ≡ g
one_end (Ended.inner a) (Ended.inner b) = refl
one_end (Ended.inner a) (Ended.empty b c) = absurd (a b)
one_end (Ended.inner a) (Ended.outermost b c d) = absurd (a b)
one_end (Ended.empty a b) (Ended.inner c) = absurd (c a)
one_end (Ended.empty a b) (Ended.empty c d) = refl
one_end (Ended.empty a b) (Ended.outermost c d e) = absurd (b d)
one_end (Ended.outermost a b c) (Ended.inner d) = absurd (d a)
one_end (Ended.outermost a b c) (Ended.empty d e) = absurd (e b)
one_end (Ended.outermost a b c) (Ended.outermost d e f) = one_persisted c f

one_of : (h now : History) (n : ℕ) (e : Event) {f g : Finding} → ClaimOf h now n e f → ClaimOf h now n e g → f ≡ g
one_of h now n (Store a) x y = one_warning x y
one_of h now n (WriteBack a) x y = one_back x y
one_of h now n Fence x y = x ∙ sym y
one_of h now n Begin x y = x ∙ sym y
one_of h now n (Log a) x y = one_warning x y
one_of h now n End x y = one_end x y
one_of h now n (Persisted a) x y = one_persisted x y
one_of h now n (Ordered a b) x y = one_order x y

-- a claim admits one finding only
pub one_finding : (h : History) (r : Record) {f g : Finding} → Claim h r f → Claim h r g → f ≡ g
one_finding h r x y = one_of h (r ∷ h) (suc (length h)) r.event x y
