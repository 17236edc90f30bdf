-- The library's decimal of a number is this crate's.
use mathlib.Core.Path.{◌≡◌}
use Prim.Native.Nat.{ℕ, ◌^◌, ◌<◌}
use native.Mathlib.Omega.{arith}
use borrow.Author.Tests.{lt-ltb, le-ltb}
use Rattle.std.specs.Fmt.{decimal as std-decimal}
use Rattle.std.proofs.lemmas.Fmt.{AppendsLastDigit, decimal_from_appends, length-decimal-le}
use Rattle.text.specs.Text.{decimal_in, decimal}

appends : AppendsLastDigit decimal_in
unfolding decimal_in
appends = record { one = λ k n h. rw (lt-ltb n 10 h); more = λ k n h. rw (le-ltb n 10 h) }

pub same_decimal : (n : ℕ) → n < 10 ^ 10 → decimal n ≡ std-decimal n
same_decimal n h = decimal_from_appends decimal_in appends 10 n (omega arith) (length-decimal-le 10 n (omega arith) h (omega arith))
