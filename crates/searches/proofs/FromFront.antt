-- A search from the front, one turn of a loop at a time: what is left of it from a place on, up to an end.
use mathlib.Core.Path.{◌≡◌, sym, ◌∙◌, ap}
use mathlib.Core.Bool.{Bool, true, false}
use mathlib.Core.Option.{Option, none, some}
use Prim.Native.Nat.{ℕ, suc, ◌+◌, ◌-◌, ◌≤◌, ◌<◌}
use native.Mathlib.Omega.{arith}
use native.Mathlib.Numerals.{add-one}
use Rattle.history.specs.Found.{lowest}
use Rattle.std.specs.Prelude.{Some, None}
use Rattle.searches.specs.Tests.{searched}

-- the search over what is left
abbrev pub left : (ℕ → Bool) → ℕ → ℕ → Option ℕ
left p end x = lowest p x (end - x)

-- at the first place all is left
pub left_all : (p : ℕ → Bool) (x n : ℕ) → left p (x + n) x ≡ lowest p x n
left_all p x n = let e : x + n - x ≡ n = omega arith in rw e

-- one less is left after each place
pub one_less : (end x : ℕ) → x < end → end - x ≡ suc (end - (x + 1))
one_less end x h = omega arith

module _ (p : ℕ → Bool) (end : ℕ) where
  -- at the end nothing is left
  pub left_end : (x : ℕ) → end ≤ x → left p end x ≡ none
  unfolding lowest
  left_end x h = let e : end - x ≡ 0 = omega arith in rw e

  -- a place that passes is the lowest of what is left
  pub left_here : (x : ℕ) → x < end → p x ≡ true → left p end x ≡ some x
  unfolding lowest
  left_here x h e = rw (one_less end x h, e)

  -- one that does not pass is left behind
  pub left_next : (x : ℕ) → x < end → p x ≡ false → left p end (x + 1) ≡ left p end x
  unfolding lowest
  left_next x h e = rw (one_less end x h, e, add-one)

-- a loop from `at` on, with the search over what is left at x the same as the whole
module _ (p : ℕ → Bool) (at n x : ℕ) (same : left p (at + n) x ≡ left p (at + n) at) where
  -- it is left at a place that passes
  pub found_here : x < at + n → p x ≡ true → Some x ≡ searched (lowest p at n)
  unfolding searched
  found_here h e = ap searched (sym (left_here p (at + n) x h e) ∙ same ∙ left_all p at n)

  -- it goes on after one that does not
  pub found_later : x < at + n → p x ≡ false → left p (at + n) (x + 1) ≡ left p (at + n) at
  found_later h e = left_next p (at + n) x h e ∙ same

  -- it ends where nothing is left
  pub found_nothing : at + n ≤ x → None ≡ searched (lowest p at n)
  unfolding searched
  found_nothing h = ap searched (sym (left_end p (at + n) x h) ∙ same ∙ left_all p at n)
