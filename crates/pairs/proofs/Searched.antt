-- What a search over pairs found, by what it answered.
use mathlib.Core.Path.{◌≡◌, refl, ap}
use mathlib.Core.Bool.{Bool}
use mathlib.Core.Option.{Option, none, some}
use Prim.Native.Nat.{ℕ, zero, suc, ◌+◌, ◌<◌}
use native.Mathlib.Omega.{arith}
use Rattle.event.specs.declared.Range.{Range}
use Rattle.ranges.specs.Ranges.{range_end}
use Rattle.history.specs.Found.{lowest_in, lowest_pair, or_pair, Pair}
use Rattle.searches.proofs.Searched.{lowest_below}
use Rattle.std.specs.Prelude.{Option as Answer, Some, None}
use Rattle.pairs.specs.declared.Pair.{Pair as Answered}
use Rattle.pairs.specs.Pairs.{pair_searched}

-- no pair
pub found_no_pair : (found : Option Pair) {s : Answer Answered} → s ≡ None → s ≡ pair_searched found → found ≡ none
unfolding pair_searched
found_no_pair none e f = refl
found_no_pair (some p) e f = let z : ◌≡◌ {A = ℕ} 0 1 = cc in absurd (omega arith)

-- a pair
pub found_pair : (found : Option Pair) {s : Answer Answered} {kept lost : ℕ} →
    s ≡ Some (record { kept = kept; lost = lost }) → s ≡ pair_searched found → found ≡ some (record { kept = kept; lost = lost })
unfolding pair_searched
found_pair none e f = let z : ◌≡◌ {A = ℕ} 0 1 = cc in absurd (omega arith)
found_pair (some p) {s} {kept} {lost} e f =
    let q : Answered = record { kept = p.kept; lost = p.lost } in
    let same : record { kept = kept; lost = lost } ≡ q = cc in
    let k : kept ≡ p.kept = ap (λ a. a.kept) same in
    let l : lost ≡ p.lost = ap (λ a. a.lost) same in
    rw (k, l)

-- what is found is within what was searched
pub pair_below : (p : ℕ → ℕ → Bool) (a : Range) (n x : ℕ) {f : Pair} → lowest_pair p a x n ≡ some f → (f.kept < x + n) × (f.lost < range_end a)
unfolding lowest_pair
pair_below p a zero x e = let z : ◌≡◌ {A = ℕ} 0 1 = cc in absurd (omega arith)
pair_below p a (suc n) x {f} e = go (lowest_in (p x) a) refl e (pair_below p a n (suc x))
  where
    go : (o : Option ℕ) → lowest_in (p x) a ≡ o → or_pair x o (lowest_pair p a (suc x) n) ≡ some f →
        (lowest_pair p a (suc x) n ≡ some f → (f.kept < suc x + n) × (f.lost < range_end a)) → (f.kept < x + suc n) × (f.lost < range_end a)
    go none h k rest = (omega (arith, (rest k).0), (rest k).1)
    go (some y) h k rest =
        let kept : x ≡ f.kept = cc in
        let lost : y ≡ f.lost = cc in
        (omega arith, omega (arith, lowest_below (p x) a.length a.address h))
