-- The limit 2, without a sum that could wrap.
use mathlib.Core.Path.{◌≡◌, refl, sym}
use mathlib.Core.Bool.{Bool, true, false}
use Prim.Native.Nat.{ℕ, ◌+◌}
use native.Mathlib.Omega.{arith}
use lib.Dec.{ltb}
use borrow.Author.Tests.{lt-ltb, le-ltb, ltb-true, ltb-false}
use Rattle.trailer.specs.Trailer.{trailer_size, most_bytes}

pub length_tested : (end : ℕ) → ltb 65520 end ≡ ltb most_bytes (end + trailer_size)
length_tested end = go (ltb 65520 end) refl
  where
    go : (b : Bool) → ltb 65520 end ≡ b → b ≡ ltb most_bytes (end + trailer_size)
    go true e = let k = ltb-true 65520 end e in sym (lt-ltb most_bytes (end + trailer_size) (omega arith))
    go false e = let k = ltb-false 65520 end e in sym (le-ltb most_bytes (end + trailer_size) (omega arith))
