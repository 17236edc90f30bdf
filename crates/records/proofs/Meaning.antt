-- What the definitions of an event's kind and of the refusals 6 and 7 say, so that a wrong definition is refused here.
-- Assumes nothing.
use Rattle.std.specs.Prelude.{Err}
use mathlib.Core.Path.{◌≡◌, refl}
use mathlib.Core.Bool.{true}
use mathlib.Core.List.{List, [], ◌∷◌}
use Prim.Native.Nat.{ℕ, zero, suc, ◌<◌}
use native.Mathlib.Omega.{arith}
use lib.Dec.{leb}
use borrow.Author.Tests.{leb-true}
use Rattle.event.specs.declared.Range.{Range}
use Rattle.event.specs.declared.Refusal.TheVariants.{UnknownKind, FieldSet}
use Rattle.event.specs.Numbers.{kind_of}
use Rattle.event.proofs.Bools.{contradiction, and_right}
use Rattle.event.proofs.Laws.{equal_by}
use Rattle.event.proofs.Table.{at}
use Rattle.records.specs.Record.{is_kind, event_of, parsed}

-- The event of a kind has that kind: one computed test over the eight kinds.
pub kind_of_event : (kind : ℕ) (a b : Range) → is_kind kind ≡ true → kind_of (event_of kind a b) ≡ kind
kind_of_event zero a b e = absurd (contradiction e refl)
kind_of_event (suc n) a b e =
    let kinds : List ℕ = 1 ∷ 2 ∷ 3 ∷ 4 ∷ 5 ∷ 6 ∷ 7 ∷ 8 ∷ [] in
    let below : n < 8 = omega (arith, leb-true (suc n) 8 (and_right (leb 1 (suc n)) (leb (suc n) 8) e)) in
    equal_by (at (λ k. kind_of (event_of (suc k) a b)) kinds tt n below) (at suc kinds tt n below)

-- A record of kind 9 is refused by 6, also with its zero byte set; one of kind 3 with its zero byte or a range set is refused by 7.
pub unknown_kind : parsed (9 ∷ 1 ∷ []) ≡ Err UnknownKind
unknown_kind = refl

pub zero_byte_set : parsed (3 ∷ 1 ∷ []) ≡ Err FieldSet
zero_byte_set = refl

pub range_set : parsed (3 ∷ 0 ∷ 0 ∷ 0 ∷ 8 ∷ []) ≡ Err FieldSet
range_set = refl
