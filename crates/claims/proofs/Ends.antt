-- Laws of an interval that a fence ends.
use mathlib.Core.Path.{◌≡◌, refl}
use mathlib.Core.Bool.{Bool, false, cond}
use Prim.Native.Nat.{ℕ}
use Rattle.event.specs.declared.Interval.{Interval}
use Rattle.event.specs.declared.Interval.TheVariants.{None, Open, Closed}
use Rattle.history.specs.ByEpochs.{is_open}
use Rattle.claims.specs.Paper.{end_at}

-- an interval that was ended is not open
pub end_closes : (t : ℕ) (i : Interval) → is_open (end_at t i) ≡ false
end_closes t None = refl
end_closes t (Open s) = refl
end_closes t (Closed s e) = refl

-- the interval ends at t if the test passes
abbrev pub ends_if : Bool → ℕ → Interval → Interval
ends_if c t i = cond c (end_at t i) i
