-- Laws that several proofs cite: two equations of one thing, and the flag that `&&` or `||` leaves.
-- Assumes nothing.
use mathlib.Core.Path.{◌≡◌, sym, ◌∙◌}
use mathlib.Core.Bool.{Bool, true, false, ◌&&◌, ◌||◌}
use mathlib.Core.Logic.{◌⊎◌, inl, inr}

-- what a call ensures of its result, with what a test found of that result
pub equal_by : {A : Type 0} {x y z : A} → x ≡ y → x ≡ z → y ≡ z
equal_by p q = sym p ∙ q

-- a flag of `||` is the `||` of its parts: by the first way the first part was true, by the second it was false
pub or_flag : {X Y : Type 0} {p q flag : Bool} → X ⊎ Y → (X → (p ≡ true) × (flag ≡ p)) → (Y → (p ≡ false) × (flag ≡ q)) → flag ≡ (p || q)
or_flag (inl x) one two = rw (one x).0 ((one x).1 ∙ (one x).0)
or_flag (inr y) one two = rw (two y).0 (two y).1

-- a flag of `&&` is the `&&` of its parts
pub and_flag : {X Y : Type 0} {p q flag : Bool} → X ⊎ Y → (X → (p ≡ true) × (flag ≡ q)) → (Y → (p ≡ false) × (flag ≡ p)) → flag ≡ (p && q)
and_flag (inl x) one two = rw (one x).0 (one x).1
and_flag (inr y) one two = rw (two y).0 ((two y).1 ∙ (two y).0)
