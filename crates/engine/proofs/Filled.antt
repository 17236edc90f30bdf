-- An entry of a table that was filled at a range's bytes or lines.
use mathlib.Core.Path.{◌≡◌, refl, sym, ◌∙◌}
use mathlib.Core.Bool.{Bool, true, false, cond, ◌&&◌, ◌||◌, or-false}
use mathlib.Core.List.{List}
use mathlib.Core.Logic.{◌≢◌}
use Prim.Native.Nat.{ℕ, ◌+◌, ◌≤◌}
use native.Mathlib.Omega.{arith}
use lib.Dec.{leb, ltb}
use lib.ListN.{length}
use borrow.Author.Tests.{eqb-false, leb-true, le-leb, ltb-true, lt-ltb, ltb-false}
use Rattle.event.specs.declared.Range.{Range}
use Rattle.window.specs.Window.{most_lines, window_bytes, line_of}
use Rattle.ranges.specs.Ranges.{range_end, covers, is_empty, touches, line_count, is_past}
use Rattle.event.proofs.Bools.{and_left, and_right, both}
use Rattle.ranges.proofs.Meaning.{touched, touched_below, below_touched}
use Rattle.tables.specs.Table.{entry, changed, filled_bytes, filled_lines}
use Rattle.tables.proofs.Table.{changed_entry}

-- two tests that imply one another
same_test : (a b : Bool) → (a ≡ true → b ≡ true) → (b ≡ true → a ≡ true) → a ≡ b
same_test true b f g = rw (f refl)
same_test false true f g = g refl
same_test false false f g = refl

-- an entry after its table was filled at a range's bytes; `|| false` ends the list of the one range that an event has
pub filled_bytes_lem : (x : ℕ) (a : Range) (xs : List ℕ) (b : ℕ) → range_end a ≤ length xs →
    entry (filled_bytes x a xs) b ≡ cond (covers a b || false) x (entry xs b)
filled_bytes_lem x a xs b k = rw or-false (changed_entry (λ place old. x) a.address xs a.length b k)

-- a range touches just the lines that are filled
touches_lines : (a : Range) (l : ℕ) → (leb (line_of a.address) l && ltb l (line_of a.address + line_count a)) ≡ touches a l
touches_lines a l =
    same_test (low && high) (touches a l)
    (λ t. below_touched a l (leb-true _ _ (and_left low high t)) (ltb-true _ _ (and_right low high t)))
    (λ t. both (le-leb _ _ (touched a l t).from) (lt-ltb _ _ (touched_below a l t)))
  where
    low : Bool
    low = leb (line_of a.address) l

    high : Bool
    high = ltb l (line_of a.address + line_count a)

-- an entry after its table was filled at the lines that a range touches
pub filled_lines_lem : (x : ℕ) (a : Range) (xs : List ℕ) (l : ℕ) → line_of a.address + line_count a ≤ length xs →
    entry (filled_lines x a xs) l ≡ cond (touches a l || false) x (entry xs l)
filled_lines_lem x a xs l k = rw (or-false, ← touches_lines a l) (changed_entry (λ place old. x) (line_of a.address) xs (line_count a) l k)

-- an entry after those of the bytes of these lines were changed
pub changed_lines : (f : ℕ → ℕ → ℕ) (a : Range) (xs : List ℕ) (b : ℕ) → window_bytes (line_of a.address + line_count a) ≤ length xs →
    entry (changed f (window_bytes (line_of a.address)) (window_bytes (line_count a)) xs) b ≡
    cond (touches a (line_of b) || false) (f b (entry xs b)) (entry xs b)
changed_lines f a xs b k =
    rw (or-false, ← touches_lines a (line_of b), ← on_lines (line_of a.address) (line_count a))
    (changed_entry f (window_bytes (line_of a.address)) xs (window_bytes (line_count a)) b (omega arith))
  where
    on_lines : (l n : ℕ) → (leb (window_bytes l) b && ltb b (window_bytes l + window_bytes n)) ≡ (leb l (line_of b) && ltb (line_of b) (l + n))
    on_lines l n =
        same_test (leb (window_bytes l) b && ltb b (window_bytes l + window_bytes n)) (leb l (line_of b) && ltb (line_of b) (l + n))
        (λ t.
        let low = leb-true (window_bytes l) b (and_left (leb (window_bytes l) b) (ltb b (window_bytes l + window_bytes n)) t) in
        let high = ltb-true b (window_bytes l + window_bytes n) (and_right (leb (window_bytes l) b) (ltb b (window_bytes l + window_bytes n)) t) in
        both (le-leb l (line_of b) (omega (arith, low))) (lt-ltb (line_of b) (l + n) (omega (arith, high))))
        (λ t.
        let low = leb-true l (line_of b) (and_left (leb l (line_of b)) (ltb (line_of b) (l + n)) t) in
        let high = ltb-true (line_of b) (l + n) (and_right (leb l (line_of b)) (ltb (line_of b) (l + n)) t) in
        both (le-leb (window_bytes l) b (omega (arith, low))) (lt-ltb b (window_bytes l + window_bytes n) (omega (arith, high))))

-- a range whose bytes and lines the tables have
pub record Fits (a : Range) : Type 0 where
  pub bytes : range_end a ≤ 4096
  pub lines : line_of a.address + line_count a ≤ 64

-- every range of an accepted event is one
pub fits : (lines : ℕ) → lines ≤ most_lines → (a : Range) → (is_past lines a || false) ≡ false → Fits a
fits lines m a k = go (ltb-false (window_bytes lines) (range_end a) (sym (or-false (is_past lines a)) ∙ k)) (is_empty a) refl
  where
    go : range_end a ≤ window_bytes lines → (b : Bool) → is_empty a ≡ b → Fits a
    go w true e = record { bytes = omega arith; lines = rw e (omega arith) }
    go w false e = let n : a.length ≢ 0 = eqb-false a.length 0 e in record { bytes = omega arith; lines = rw e (omega (arith, n)) }
