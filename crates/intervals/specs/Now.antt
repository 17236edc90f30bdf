-- What a write-back makes of the first write-back after a byte's last store, and a fence of its closing epoch.
use Rattle.std.specs.Prelude.{cond, List, ℕ, ltb, eqb}
use Rattle.tables.specs.Table.{entry}

-- the first write-back after a byte's last store, after the write-back of its line with this number: that one, where there was none yet
abbrev pub back_now : (number store old : ℕ) → ℕ
back_now number store old = cond (ltb old store) number old

-- the closing epoch of a byte after the fence with this number, which begins the epoch: that one, where this fence closed the byte
abbrev pub epoch_now : (number epoch fence old : ℕ) → ℕ
epoch_now number epoch fence old = cond (eqb fence number) epoch old

-- of byte b
abbrev pub backed_now : (number : ℕ) → (stored : List ℕ) → (b old : ℕ) → ℕ
backed_now number stored b old = back_now number (entry stored b) old

abbrev pub closed_now : (number epoch : ℕ) → (fenced : List ℕ) → (b old : ℕ) → ℕ
closed_now number epoch fenced b old = epoch_now number epoch (entry fenced b) old
