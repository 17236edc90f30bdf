-- The refusals bear the paper's numbers: 1 to 18 without 8, in the order in which they are declared.
-- Assumes nothing.
use mathlib.Core.Path.{◌≡◌, refl}
use mathlib.Core.Logic.{◌≢◌}
use mathlib.Core.List.{[], ◌∷◌, map}
use native.Mathlib.Omega.{arith}
use Prim.Native.Nat.{ℕ}
use Rattle.event.specs.declared.NamedInterval.TheVariants.{None as NoneNamed, Open as OpenNamed, Closed as ClosedNamed}
use Rattle.event.specs.Reply.{interval_values, named_values, without_events}
use Rattle.event.specs.declared.Refusal.{Refusal}
use Rattle.event.specs.declared.Refusal.TheVariants.{TraceTooShort, TraceTooLong, MarkDiffers, BadLines, LengthDiffers, UnknownKind, FieldSet, PastWindow, EventsExhausted, NoTransaction, TooDeep, TransactionOpen, AreaTooShort, FileAreaTooShort, PageAreaTooShort, NoByteClosed, SharedByte}
use Rattle.event.specs.Numbers.{number_of}

pub refusals_numbered :
    map number_of
    (TraceTooShort ∷ TraceTooLong ∷ MarkDiffers ∷ BadLines ∷ LengthDiffers ∷ UnknownKind ∷ FieldSet ∷ PastWindow ∷
    EventsExhausted ∷ NoTransaction ∷ TooDeep ∷ TransactionOpen ∷ AreaTooShort ∷ FileAreaTooShort ∷ PageAreaTooShort ∷ NoByteClosed ∷ SharedByte ∷ []) ≡
    1 ∷ 2 ∷ 3 ∷ 4 ∷ 5 ∷ 6 ∷ 7 ∷ 9 ∷ 10 ∷ 11 ∷ 12 ∷ 13 ∷ 14 ∷ 15 ∷ 16 ∷ 17 ∷ 18 ∷ []
refusals_numbered = refl

-- none has the number 8
pub no_eight_lem : (x : Refusal) → number_of x ≢ 8
no_eight_lem TraceTooShort e = omega (arith, e)
no_eight_lem TraceTooLong e = omega (arith, e)
no_eight_lem MarkDiffers e = omega (arith, e)
no_eight_lem BadLines e = omega (arith, e)
no_eight_lem LengthDiffers e = omega (arith, e)
no_eight_lem UnknownKind e = omega (arith, e)
no_eight_lem FieldSet e = omega (arith, e)
no_eight_lem PastWindow e = omega (arith, e)
no_eight_lem EventsExhausted e = omega (arith, e)
no_eight_lem NoTransaction e = omega (arith, e)
no_eight_lem TooDeep e = omega (arith, e)
no_eight_lem TransactionOpen e = omega (arith, e)
no_eight_lem AreaTooShort e = omega (arith, e)
no_eight_lem FileAreaTooShort e = omega (arith, e)
no_eight_lem PageAreaTooShort e = omega (arith, e)
no_eight_lem NoByteClosed e = omega (arith, e)
no_eight_lem SharedByte e = omega (arith, e)

-- the answer of a byte asked: nothing; the epoch, the last store and the write-back; both epochs, the last store, the write-back and the fence
pub named_numbered : (opened closed store back fence : ℕ) →
    map named_values (NoneNamed ∷ OpenNamed opened store back ∷ ClosedNamed opened closed store back fence ∷ []) ≡
    [] ∷ (opened ∷ store ∷ back ∷ []) ∷ (opened ∷ closed ∷ store ∷ back ∷ fence ∷ []) ∷ []
named_numbered opened closed store back fence = refl

-- without its events it has the epochs alone
pub epochs_left : (opened closed store back fence : ℕ) →
    map (λ i. interval_values (without_events i)) (NoneNamed ∷ OpenNamed opened store back ∷ ClosedNamed opened closed store back fence ∷ []) ≡
    [] ∷ (opened ∷ []) ∷ (opened ∷ closed ∷ []) ∷ []
epochs_left opened closed store back fence = refl
