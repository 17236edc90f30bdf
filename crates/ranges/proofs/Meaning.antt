-- What the definitions of specs/ say, in plain words, so that a wrong definition is refused here.
-- Assumes nothing.
use mathlib.Core.Path.{◌≡◌, refl}
use mathlib.Core.Bool.{Bool, true, false, not, ◌&&◌}
use mathlib.Core.Logic.{◌≢◌, ◌⊎◌, inl, inr}
use mathlib.Core.List.{[], ◌∷◌}
use Prim.Native.Nat.{ℕ, ◌+◌, ◌*◌, ◌-◌, ◌≤◌, ◌<◌, max}
use native.Mathlib.Omega.{arith}
use lib.Dec.{leb, ltb}
use borrow.Author.Tests.{not-true, eqb-false, eq-eqb, ne_eqb, leb-true, le-leb, ltb-true, ltb-false, lt-ltb}
use Rattle.event.specs.declared.Range.{Range}
use Rattle.window.specs.Window.{window_bytes, line_of}
use Rattle.ranges.specs.Ranges.{range_end, covers, is_empty, touches, line_count, is_past, shares_byte}
use Rattle.event.proofs.Bools.{contradiction, fails, fails_not, not_of, and_left, and_right, both}

-- A range covers the bytes from its address on that lie before its end.
pub record Covered (r : Range) (byte : ℕ) : Type 0 where
  pub from : r.address ≤ byte
  pub to : byte < range_end r

pub covered : (r : Range) (byte : ℕ) → covers r byte ≡ true → Covered r byte
covered r byte e =
    record {
      from = leb-true r.address byte (and_left (leb r.address byte) (ltb byte (range_end r)) e);
      to = ltb-true byte (range_end r) (and_right (leb r.address byte) (ltb byte (range_end r)) e);
    }

pub covering : (r : Range) (byte : ℕ) → r.address ≤ byte → byte < range_end r → covers r byte ≡ true
covering r byte from to = both (le-leb r.address byte from) (lt-ltb byte (range_end r) to)

-- A range touches the lines from that of its first byte to that of its last.
pub record Touched (r : Range) (line : ℕ) : Type 0 where
  pub some : r.length ≢ 0
  pub from : line_of r.address ≤ line
  pub to : line ≤ line_of (range_end r - 1)

pub touched : (r : Range) (line : ℕ) → touches r line ≡ true → Touched r line
touched r line e =
    let low = leb (line_of r.address) line in
    let high = leb line (line_of (range_end r - 1)) in
    let first = and_left (not (is_empty r) && low) high e in
    record {
      some = eqb-false r.length 0 (not-true (is_empty r) (and_left (not (is_empty r)) low first));
      from = leb-true (line_of r.address) line (and_right (not (is_empty r)) low first);
      to = leb-true line (line_of (range_end r - 1)) (and_right (not (is_empty r) && low) high e);
    }

pub touching : (r : Range) (line : ℕ) → Touched r line → touches r line ≡ true
touching r line x = rw (ne_eqb r.length 0 x.some, le-leb (line_of r.address) line x.from) (le-leb line (line_of (range_end r - 1)) x.to)

-- Every line that a range touches holds one of its bytes.
pub touches_a_byte : (r : Range) (line : ℕ) → touches r line ≡ true → (byte : ℕ) × (covers r byte ≡ true) × (line_of byte ≡ line)
touches_a_byte r line e =
    let x : Touched r line = touched r line e in
    let byte : ℕ = max r.address (line * 64) in
    (byte, covering r byte (omega arith) (omega (arith, x.some, x.from, x.to)), omega (arith, x.from))

-- The line of each byte that a range covers is touched.
pub byte_touches : (r : Range) (byte : ℕ) → covers r byte ≡ true → touches r (line_of byte) ≡ true
byte_touches r byte e =
    let x : Covered r byte = covered r byte e in
    touching r (line_of byte) (record { some = λ z. omega (arith, x.from, x.to, z); from = omega (arith, x.from); to = omega (arith, x.to) })

-- They are line_count lines.
pub touched_below : (r : Range) (line : ℕ) → touches r line ≡ true → line < line_of r.address + line_count r
touched_below r line e =
    let x : Touched r line = touched r line e in
    rw (ne_eqb r.length 0 x.some) (omega (arith, x.from, x.to))

pub below_touched : (r : Range) (line : ℕ) → line_of r.address ≤ line → line < line_of r.address + line_count r → touches r line ≡ true
below_touched r line from to = go (is_empty r) refl
  where
    go : (b : Bool) → is_empty r ≡ b → touches r line ≡ true
    go true e = absurd (omega (arith, from, rw e at to))
    go false e = touching r line (record { some = eqb-false r.length 0 e; from = from; to = omega (arith, from, rw e at to) })

-- A range of length 0 covers no byte and touches no line; every other covers the byte at its address.
pub empty_covers : (r : Range) (byte : ℕ) → r.length ≡ 0 → covers r byte ≡ false
empty_covers r byte z = fails (covers r byte) (λ e. omega (arith, (covered r byte e).from, (covered r byte e).to, z))

pub empty_touches : (r : Range) (line : ℕ) → r.length ≡ 0 → touches r line ≡ false
empty_touches r line z = fails (touches r line) (λ e. (touched r line e).some z)

pub no_lines : (r : Range) → r.length ≡ 0 → line_count r ≡ 0
no_lines r z = rw (eq-eqb r.length 0 z)

pub covers_some_lem : (r : Range) (byte : ℕ) → covers r byte ≡ true → not (is_empty r) ≡ true
covers_some_lem r byte e = not_of (ne_eqb r.length 0 (λ z. contradiction e (empty_covers r byte z)))

pub covers_first : (r : Range) → r.length ≢ 0 → covers r r.address ≡ true
covers_first r n = covering r r.address (omega arith) (omega (arith, n))

-- Neighbours share no byte; a shared edge, either way round, a part and the range itself do; a range of no bytes inside the other does not.
abbrev sharing : (a aLength b bLength : ℕ) → Bool
sharing a aLength b bLength = shares_byte (record { address = a; length = aLength }) (record { address = b; length = bLength })

pub worked_shares :
    (sharing 0 8 8 8 ∷ sharing 8 8 0 8 ∷ sharing 0 8 7 8 ∷ sharing 7 8 0 8 ∷ sharing 0 8 2 3 ∷ sharing 0 8 0 8 ∷ sharing 4 0 0 8 ∷ sharing 0 8 4 0 ∷ []) ≡
    false ∷ false ∷ true ∷ true ∷ true ∷ true ∷ false ∷ false ∷ []
worked_shares = refl

-- Two ranges share a byte exactly if both cover one.
pub shared_byte_lem : (a b : Range) → shares_byte a b ≡ true → (byte : ℕ) × (covers a byte ≡ true) × (covers b byte ≡ true)
shared_byte_lem a b e =
    let before = ltb a.address (range_end b) in
    let behind = ltb b.address (range_end a) in
    let some = not (is_empty a) && not (is_empty b) in
    let first = and_left (some && before) behind e in
    let long = and_left some before first in
    let a-some = eqb-false a.length 0 (not-true (is_empty a) (and_left (not (is_empty a)) (not (is_empty b)) long)) in
    let b-some = eqb-false b.length 0 (not-true (is_empty b) (and_right (not (is_empty a)) (not (is_empty b)) long)) in
    let a-before = ltb-true a.address (range_end b) (and_right some before first) in
    let b-before = ltb-true b.address (range_end a) (and_right (some && before) behind e) in
    let byte : ℕ = max a.address b.address in (
      byte,
      covering a byte (omega arith) (omega (arith, a-some, b-before)),
      covering b byte (omega arith) (omega (arith, b-some, a-before)),
    )

pub byte_shared : (a b : Range) (byte : ℕ) → covers a byte ≡ true → covers b byte ≡ true → shares_byte a b ≡ true
byte_shared a b byte e f =
    let x : Covered a byte = covered a byte e in
    let y : Covered b byte = covered b byte f in
    both (both (both (covers_some_lem a byte e) (covers_some_lem b byte f)) (lt-ltb a.address (range_end b) (omega (arith, x.from, y.to))))
    (lt-ltb b.address (range_end a) (omega (arith, y.from, x.to)))

-- A range of length 0 shares no byte, wherever its address is.
pub empty_shares : (a b : Range) → (a.length ≡ 0) ⊎ (b.length ≡ 0) → shares_byte a b ≡ false
empty_shares a b z = fails (shares_byte a b) (λ e. go z (shared_byte_lem a b e))
  where
    go : (a.length ≡ 0) ⊎ (b.length ≡ 0) → (byte : ℕ) × (covers a byte ≡ true) × (covers b byte ≡ true) → ⊥
    go (inl k) x = contradiction x.1 (empty_covers a x.0 k)
    go (inr k) x = contradiction x.2 (empty_covers b x.0 k)

-- A range of length 0 lies in the window where its address is at most the window's size in bytes, and runs past it beyond.
pub empty_inside : (lines : ℕ) (r : Range) → r.length ≡ 0 → r.address ≤ window_bytes lines → is_past lines r ≡ false
empty_inside lines r z k = fails (is_past lines r) (λ e. omega (arith, ltb-true))

pub empty_beyond : (lines : ℕ) (r : Range) → r.length ≡ 0 → window_bytes lines < r.address → is_past lines r ≡ true
empty_beyond lines r z k = fails_not (is_past lines r) (λ e. omega (arith, ltb-false))

-- A range that does not run past the window covers only bytes of the window.
pub inside_window : (lines : ℕ) (r : Range) → is_past lines r ≡ false → (byte : ℕ) → covers r byte ≡ true → byte < window_bytes lines
inside_window lines r inside byte e = omega (arith, (covered r byte e).to, ltb-false (window_bytes lines) (range_end r) inside)

-- A range that runs past the window and is not empty covers a byte that the window does not have.
pub past_window_lem : (lines : ℕ) (r : Range) → is_past lines r ≡ true → is_empty r ≡ false → (byte : ℕ) × (covers r byte ≡ true) × (window_bytes lines ≤ byte)
past_window_lem lines r past some =
    let far = ltb-true (window_bytes lines) (range_end r) past in
    let long = eqb-false r.length 0 some in
    (range_end r - 1, covering r (range_end r - 1) (omega (arith, long)) (omega arith), omega (arith, far))
