-- The values so far, and 0 behind them.
use Rattle.std.proofs.Common.{◌≡◌, ℕ, ◌<◌, ◌≤◌, length, get_or}
use Rattle.replies.proofs.with_values.Given as goal

abbrev pub invariant-loop-i : goal.invariant-loop-i
invariant-loop-i l =
    (length l.all ≡ 8) × ((k : ℕ) → k < l.i → get_or l.all k 0 ≡ get_or l.values k 0) × ((k : ℕ) → l.i ≤ k → get_or l.all k 0 ≡ 0)
