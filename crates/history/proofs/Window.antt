-- What the ranges of an event say of its bytes and lines.
use mathlib.Core.Path.{◌≡◌}
use mathlib.Core.Bool.{Bool, true, false}
use mathlib.Core.List.{List, [], ◌∷◌}
use mathlib.Core.Logic.{⊎_elim}
use Prim.Native.Nat.{ℕ, ◌<◌}
use Rattle.event.specs.declared.Range.{Range}
use Rattle.event.specs.declared.Event.{Event}
use Rattle.window.specs.Window.{window_bytes, line_of}
use Rattle.ranges.specs.Ranges.{covers, touches, is_past, ranges_of, any_range}
use Rattle.event.proofs.Bools.{contradiction, fails, and_left, and_right, both, or_cases, or_left, or_right}
use Rattle.ranges.proofs.Meaning.{byte_touches, inside_window}
use Rattle.history.specs.History.{stores, covers_byte, stores_byte, stores_line}

pub any_implied : (p q : Range → Bool) → ((a : Range) → p a ≡ true → q a ≡ true) → (rs : List Range) → any_range p rs ≡ true → any_range q rs ≡ true
any_implied p q f [] t = t
any_implied p q f (a ∷ rs) t =
    ⊎_elim (λ (k : p a ≡ true). or_left (any_range q rs) (f a k)) (λ (k : any_range p rs ≡ true). or_right (q a) (any_implied p q f rs k)) (or_cases (p a) (any_range p rs) t)

-- a store that covers a byte has a piece on its line
pub stores_line_lem : (b : ℕ) (e : Event) → stores_byte b e ≡ true → stores_line (line_of b) e ≡ true
stores_line_lem b e t =
    both (and_left (stores e) (covers_byte b e) t)
    (any_implied (λ a. covers a b) (λ a. touches a (line_of b)) (λ a. byte_touches a b) (ranges_of e) (and_right (stores e) (covers_byte b e) t))

-- a byte that the ranges cover lies in the window, where none of them runs past it
pub covers_inside : (lines b : ℕ) (rs : List Range) → any_range (is_past lines) rs ≡ false → any_range (λ a. covers a b) rs ≡ true → b < window_bytes lines
covers_inside lines b [] k t = absurd (contradiction t k)
covers_inside lines b (a ∷ rs) k t =
    ⊎_elim (λ (c : covers a b ≡ true). inside_window lines a (fails _ (λ e. contradiction (or_left (any_range (is_past lines) rs) e) k)) b c)
    (λ (c : any_range (λ a. covers a b) rs ≡ true). covers_inside lines b rs (fails _ (λ e. contradiction (or_right (is_past lines a) e) k)) c)
    (or_cases (covers a b) (any_range (λ a. covers a b) rs) t)
