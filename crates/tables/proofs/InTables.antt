-- The part of a range that the tables have.
use mathlib.Core.Path.{◌≡◌, refl}
use mathlib.Core.Bool.{Bool, true, false}
use Prim.Native.Nat.{◌+◌, ◌-◌, ◌/◌, ◌≤◌, min}
use native.Mathlib.Omega.{arith}
use borrow.Author.Tests.{eqb-false}
use Rattle.event.specs.declared.Range.{Range}
use Rattle.window.specs.Window.{line_of}
use Rattle.ranges.specs.Ranges.{line_count, range_end, is_empty}
use Rattle.tables.specs.Table.{in_tables}

-- it is within them
pub in_tables_end : (a : Range) → range_end (in_tables a) ≤ 4096
in_tables_end a = omega arith

-- and so are its lines
pub in_tables_lines : (a : Range) → line_of (in_tables a).address + line_count (in_tables a) ≤ 64
in_tables_lines a = go (is_empty (in_tables a)) refl
  where
    go : (t : Bool) → is_empty (in_tables a) ≡ t → line_of (in_tables a).address + line_count (in_tables a) ≤ 64
    go true e =
        let none : line_count (in_tables a) ≡ 0 = rw e in
        omega arith
    go false e =
        let some : (in_tables a).length ≡ 0 → ⊥ = eqb-false (in_tables a).length 0 e in
        let all : line_count (in_tables a) ≡ (range_end (in_tables a) - 1) / 64 + 1 - (in_tables a).address / 64 = rw e in
        omega arith

-- a range within them is all there
module _ (a : Range) (h : range_end a ≤ 4096) where
  pub in_tables_address : min a.address 4096 ≡ a.address
  in_tables_address = omega arith

  pub in_tables_length : min a.length (4096 - a.address) ≡ a.length
  in_tables_length = omega arith

  pub in_tables_lem : in_tables a ≡ a
  in_tables_lem = rw (in_tables_address, in_tables_length)
