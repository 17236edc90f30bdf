-- A search over pairs from the front, one turn of nested loops at a time: what is left of it from a kept byte on, up to an end.
use mathlib.Core.Path.{◌≡◌, sym, ◌∙◌, ap}
use mathlib.Core.Bool.{Bool, true, false}
use mathlib.Core.Option.{Option, none, some}
use Prim.Native.Nat.{ℕ, ◌+◌, ◌-◌, ◌≤◌, ◌<◌}
use native.Mathlib.Omega.{arith}
use native.Mathlib.Numerals.{add-one}
use Rattle.event.specs.declared.Range.{Range}
use Rattle.ranges.specs.Ranges.{range_end}
use Rattle.history.specs.Found.{lowest_in, lowest_pair, Pair}
use Rattle.searches.proofs.FromFront.{left, one_less, left_here, left_end}
use Rattle.searches.proofs.Searched.{lowest_none}
use Rattle.std.specs.Prelude.{Some, None}
use Rattle.pairs.specs.Pairs.{pair_searched}

-- the search over what is left
abbrev pub left_pair : (ℕ → ℕ → Bool) → Range → (end x : ℕ) → Option Pair
left_pair p a end x = lowest_pair p a x (end - x)

module _ (p : ℕ → ℕ → Bool) (a : Range) where
  -- at the first kept byte all is left
  left_all_pairs : (x m : ℕ) → left_pair p a (x + m) x ≡ lowest_pair p a x m
  left_all_pairs x m = let e : x + m - x ≡ m = omega arith in rw e

  module _ (end : ℕ) where
    -- at the end nothing is left
    pairs_end : (x : ℕ) → end ≤ x → left_pair p a end x ≡ none
    unfolding lowest_pair
    pairs_end x h = let e : end - x ≡ 0 = omega arith in rw e

    -- a kept byte with a partner
    pairs_here : (x y : ℕ) → x < end → lowest_in (p x) a ≡ some y → left_pair p a end x ≡ some (record { kept = x; lost = y })
    unfolding lowest_pair
    pairs_here x y h e = rw (one_less end x h, e)

    -- a kept byte without one is left behind
    pairs_next : (x : ℕ) → x < end → lowest_in (p x) a ≡ none → left_pair p a end (x + 1) ≡ left_pair p a end x
    unfolding lowest_pair
    pairs_next x h e = rw (one_less end x h, e, add-one)

  -- nested loops over the m bytes from `start` on and those of a, with the search over what is left at x the same as the whole
  module _ (start m x : ℕ) (same : left_pair p a (start + m) x ≡ left_pair p a (start + m) start) where
    -- they are left at a pair that passes
    pub pair_here : (y : ℕ) → left (p x) (range_end a) y ≡ lowest_in (p x) a → x < start + m → y < range_end a → p x y ≡ true →
        Some (record { kept = x; lost = y }) ≡ pair_searched (lowest_pair p a start m)
    unfolding pair_searched
    pair_here y inner h k e =
        let partner : lowest_in (p x) a ≡ some y = sym inner ∙ left_here (p x) (range_end a) y k e in
        ap pair_searched (sym (pairs_here (start + m) x y h partner) ∙ same ∙ left_all_pairs start m)

    -- the outer one goes on where the inner one found nothing
    pub pair_later : (y : ℕ) → left (p x) (range_end a) y ≡ lowest_in (p x) a → x < start + m → range_end a ≤ y →
        left_pair p a (start + m) (x + 1) ≡ left_pair p a (start + m) start
    pair_later y inner h k = pairs_next (start + m) x h (sym inner ∙ left_end (p x) (range_end a) y k) ∙ same

    -- and where the kept byte has no partner
    pub pair_never : ((y : ℕ) → p x y ≡ false) → x < start + m → left_pair p a (start + m) (x + 1) ≡ left_pair p a (start + m) start
    pair_never never h = pairs_next (start + m) x h (lowest_none (p x) a.length a.address (λ y low high. never y)) ∙ same

    -- it ends where nothing is left
    pub pair_nothing : start + m ≤ x → None ≡ pair_searched (lowest_pair p a start m)
    unfolding pair_searched
    pair_nothing h = ap pair_searched (sym (pairs_end (start + m) x h) ∙ same ∙ left_all_pairs start m)
