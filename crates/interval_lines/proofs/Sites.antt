-- The line of an event's site.
use mathlib.Core.Path.{◌≡◌}
use mathlib.Core.List.{[], ◌++◌}
use Prim.Native.Nat.{ℕ, zero, suc, ◌<◌}
use native.Mathlib.Omega.{arith}
use Rattle.text.specs.Text.{ascii, decimal}
use Rattle.text.specs.Cursor.{Puts}
use Rattle.text.specs.declared.Cursor.{Cursor}
use Rattle.interval_lines.specs.Lines.{site_line}

-- of an event, and of none
pub site_put : (event site : ℕ) {o p : Cursor} → 0 < event →
    Puts (ascii "event " ++ decimal event ++ ascii " site " ++ decimal site ++ ascii "\n") o p → Puts (site_line event site) o p
unfolding site_line
site_put zero site some e = absurd (omega arith)
site_put (suc n) site some e = e

pub none_put : (event site : ℕ) {o p : Cursor} → event ≡ 0 → Puts [] o p → Puts (site_line event site) o p
unfolding site_line
none_put event site e k = rw e k
