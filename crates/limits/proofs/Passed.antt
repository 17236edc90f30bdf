-- What holds of an event that no limit refuses.
use Rattle.std.specs.Prelude.{Ok, Err}
use mathlib.Core.Path.{◌≡◌}
use mathlib.Core.Bool.{false, ◌&&◌}
use mathlib.Core.List.{List}
use Prim.Native.Nat.{ℕ, ◌≤◌, ◌<◌}
use native.Mathlib.Omega.{arith}
use lib.Dec.{eqb, leb}
use borrow.Author.Tests.{eqb-false, leb-false}
use Rattle.event.specs.declared.Event.{Event}
use Rattle.event.specs.declared.Event.TheVariants.{Begin, End}
use Rattle.event.specs.Answers.{Check}
use Rattle.ranges.specs.Ranges.{is_past, ranges_of, any_range}
use Rattle.history.specs.History.{begins}
use Rattle.history.specs.Refused.{Limit, limits_by, first_broken, NoneBroken, most_depth, asks_open, refusal_by}
use Rattle.history.proofs.Given.{Checked, checked}
use Rattle.limits.specs.Limits.{numbers_of}

-- no limit is broken where the check passes
pub passed_unbroken : (limits : List Limit) → first_broken limits ≡ (Ok tt) → NoneBroken limits
passed_unbroken limits e = go (first_broken limits) (checked limits) e
  where
    go : (c : Check) → Checked limits c → c ≡ (Ok tt) → NoneBroken limits
    go (Ok _) (Checked.none k) f = k
    go (Err x) (Checked.first k) f = let z : ◌≡◌ {A = ℕ} 0 1 = cc in absurd (omega arith)

-- what the limits say of an event that passes
pub record Passes (lines events depth : ℕ) (e : Event) : Type 0 where
  pub room : events < 65535
  pub ranges : any_range (is_past lines) (ranges_of e) ≡ false
  pub inside : asks_open e && eqb depth 0 ≡ false
  pub nests : begins e && leb most_depth depth ≡ false

module _ (lines events depth : ℕ) where
  pub passed : (e : Event) → refusal_by (numbers_of lines events depth) e ≡ (Ok tt) → Passes lines events depth e
  unfolding refusal_by
  passed e k = go (passed_unbroken (limits_by (numbers_of lines events depth) e) k)
    where
      go : NoneBroken (limits_by (numbers_of lines events depth) e) → Passes lines events depth e
      go (NoneBroken.cons a (NoneBroken.cons s (NoneBroken.cons b (NoneBroken.cons c (NoneBroken.cons d e))))) =
          record { room = leb-false 65535 events b; ranges = a; inside = c; nests = d }

  -- a begin that passes is at a depth below 8
  pub begin_below : refusal_by (numbers_of lines events depth) Begin ≡ (Ok tt) → depth < 8
  begin_below p = leb-false 8 depth (passed Begin p).nests

  -- an end that passes has a transaction open
  pub end_inside : refusal_by (numbers_of lines events depth) End ≡ (Ok tt) → 1 ≤ depth
  end_inside p = let z : depth ≡ 0 → ⊥ = eqb-false depth 0 (passed End p).inside in omega arith
