-- The check of an event's ranges and then that of the state are the check of all limits.
use Rattle.std.specs.Prelude.{Ok, Err}
use mathlib.Core.Path.{◌≡◌, refl}
use mathlib.Core.List.{List}
use Prim.Native.Nat.{ℕ}
use lib.ListN.{take, drop}
use Rattle.event.specs.declared.Event.{Event}
use Rattle.event.specs.declared.Refusal.{Refusal}
use Rattle.ranges.specs.Ranges.{range_check}
use Rattle.history.specs.Refused.{Limit, limits_by, refusal_by}
use Rattle.limits.specs.Limits.{numbers_of, state_check}
use Rattle.limits.proofs.Parts.{part_refused, part_passed}

module _ (lines events depth : ℕ) (e : Event) where
  abbrev limits : List Limit
  limits = limits_by (numbers_of lines events depth) e

  -- where the first refuses
  pub range_refused : {x : Refusal} → range_check lines e ≡ Err x → Err x ≡ refusal_by (numbers_of lines events depth) e
  unfolding refusal_by
  range_refused k = part_refused (take 2 limits) (drop 2 limits) k

  -- where it passes
  pub range_passed : range_check lines e ≡ (Ok tt) → state_check events depth e ≡ refusal_by (numbers_of lines events depth) e
  unfolding refusal_by
  range_passed k = part_passed (take 2 limits) (drop 2 limits) k refl
