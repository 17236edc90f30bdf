-- The findings of an area, checked one after another.
use Rattle.std.specs.Prelude.{Ok, Err}
use mathlib.Core.Path.{◌≡◌}
use mathlib.Core.List.{List}
use Prim.Native.Nat.{ℕ, suc, ◌+◌, ◌-◌, ◌≤◌, ◌<◌}
use native.Mathlib.Omega.{arith}
use Rattle.event.specs.declared.Refusal.{Refusal}
use Rattle.history.specs.Refused.{first_broken}
use Rattle.pages.specs.Answers.{Paged, refused_finding}
use Rattle.pages.specs.Limits.{damage_limits}
use Rattle.pages.specs.Paged.{unless_broken, unless_damaged}

module _ (findings : List ℕ) (i count : ℕ) (rest : Paged) where
  -- the next one, and then those after it
  damaged_next : i < count →
      unless_damaged i (count - i) findings rest ≡ unless_broken (first_broken (damage_limits i findings)) (i + 1) (unless_damaged (i + 1) (count - (i + 1)) findings rest)
  unfolding unless_damaged
  damaged_next k =
      let left : count - i ≡ suc (count - (i + 1)) = omega arith in
      let next : i + 1 ≡ suc i = omega arith in
      rw (left, next)

  -- it is damaged, or not
  pub one_damaged : {x : Refusal} → i < count → first_broken (damage_limits i findings) ≡ Err x → refused_finding x (i + 1) ≡ unless_damaged i (count - i) findings rest
  one_damaged k e = rw (damaged_next k, e)

  pub not_damaged : i < count → first_broken (damage_limits i findings) ≡ (Ok tt) →
      unless_damaged (i + 1) (count - (i + 1)) findings rest ≡ unless_damaged i (count - i) findings rest
  not_damaged k e = rw (damaged_next k, e)

  pub none_damaged : count ≤ i → rest ≡ unless_damaged i (count - i) findings rest
  unfolding unless_damaged
  none_damaged k = let none : count - i ≡ 0 = omega arith in rw none
