-- No line is longer than its words and numbers of ten digits.
use Prim.Native.Nat.{ℕ, zero, suc, ◌≤◌}
use native.Mathlib.Omega.{arith}
use lib.ListN.{length, length-append}
use Rattle.event.specs.declared.NamedInterval.{NamedInterval}
use Rattle.event.specs.declared.NamedInterval.TheVariants.{None, Open, Closed}
use Rattle.text.proofs.Decimal.{decimal_length}
use Rattle.trace_interval.specs.declared.Sites.{Sites}
use Rattle.interval_lines.specs.Lines.{open_line, closed_line, site_line, interval_text}

open_size : (opened store back : ℕ) → length (open_line opened store back) ≤ 60
unfolding open_line
open_size opened store back = simp length-append (omega (arith, decimal_length opened, decimal_length store, decimal_length back))

closed_size : (opened closed store back fence : ℕ) → length (closed_line opened closed store back fence) ≤ 85
unfolding closed_line
closed_size opened closed store back fence =
    simp length-append
    (omega (arith, decimal_length opened, decimal_length closed, decimal_length store, decimal_length back, decimal_length fence))

site_size : (event site : ℕ) → length (site_line event site) ≤ 33
unfolding site_line
site_size zero site = omega arith
site_size (suc n) site = simp length-append (omega (arith, decimal_length (suc n), decimal_length site))

pub text_size : (i : NamedInterval) (s : Sites) → length (interval_text i s) ≤ 184
text_size None s = omega arith
text_size (Open opened store back) s =
    simp length-append
    (omega (arith, open_size opened store back, site_size store s.store, site_size back s.back, site_size 0 s.fence))
text_size (Closed opened closed store back fence) s =
    simp length-append
    (omega (arith, closed_size opened closed store back fence, site_size store s.store, site_size back s.back, site_size fence s.fence))
