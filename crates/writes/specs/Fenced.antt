-- What a fence makes of the closing fence of a byte.
use Rattle.std.specs.Prelude.{cond, ◌&&◌, List, ℕ, ltb}
use Rattle.window.specs.Window.{line_of}
use Rattle.tables.specs.Table.{entry}

-- the closing fence of a byte after the fence with this number, where its line was last written back at `back`: that one, if the byte's
-- interval is open and its last store older than the write-back
abbrev pub fence_now : (back number store old : ℕ) → ℕ
fence_now back number store old = cond (ltb old store && ltb store back) number old

-- the closing fence of byte b after it, where lines not written back since the last fence are passed over
abbrev pub fenced_by : (fence number : ℕ) → (stored backed : List ℕ) → (b old : ℕ) → ℕ
fenced_by fence number stored backed b old =
    cond (ltb fence (entry backed (line_of b))) (fence_now (entry backed (line_of b)) number (entry stored b) old) old
