-- What the definitions of bytes say, in plain words, so that a wrong definition is refused here.
-- Assumes nothing.
use mathlib.Core.Path.{◌≡◌, refl, ap₂, ◌∙◌}
use mathlib.Core.List.{List, [], ◌∷◌, ◌++◌}
use Prim.Native.Nat.{ℕ, ◌+◌, ◌*◌, ◌/◌, ◌%◌, ◌<◌}
use native.Mathlib.Omega.{arith}
use lib.ListN.{length, get_or}
use Rattle.event.specs.declared.Finding.{Finding}
use Rattle.codec.specs.Codec.{u16_at, u32_at, u16_bytes, u32_bytes, finding_size, finding_bytes}

-- A u16 written as two bytes is read back, and a u32 as four.
pub u16_round_trip : (n : ℕ) → u16_at (u16_bytes n) 0 ≡ n
u16_round_trip n = omega arith

pub u32_round_trip : (n : ℕ) → u32_at (u32_bytes n) 0 ≡ n
u32_round_trip n = omega arith

-- Both bytes of a u16 are below 256.
pub u16_bytes_fit : (n : ℕ) → n < 65536 → (get_or (u16_bytes n) 0 0 < 256) × (get_or (u16_bytes n) 1 0 < 256)
u16_bytes_fit n h = omega arith

-- The two bytes of a u16 that was read are those that it was read from.
pub u16_bytes_lem : (x y : ℕ) → x < 256 → u16_bytes (x + 256 * y) ≡ x ∷ y ∷ []
u16_bytes_lem x y h = ap₂ (λ (a b : ℕ). a ∷ b ∷ []) (omega arith) (omega arith)

-- And so are the four of a u32.
pub u32_bytes_lem : (w x y z : ℕ) → w < 256 → x < 256 → y < 256 → u32_bytes (w + 256 * x + 65536 * (y + 256 * z)) ≡ w ∷ x ∷ y ∷ z ∷ []
u32_bytes_lem w x y z h k l =
    let low : (w + 256 * x + 65536 * (y + 256 * z)) % 65536 ≡ w + 256 * x = omega arith in
    let high : (w + 256 * x + 65536 * (y + 256 * z)) / 65536 ≡ y + 256 * z = omega arith in
    ap₂ (λ (a b : ℕ). u16_bytes a ++ u16_bytes b) low high ∙ ap₂ (λ (a b : List ℕ). a ++ b) (u16_bytes_lem w x h) (u16_bytes_lem y z l)

-- Every finding has 12 bytes.
pub finding_length : (f : Finding) (site : ℕ) → length (finding_bytes f site) ≡ finding_size
finding_length f site = refl
