-- The values stand in front, and zeros behind them.
use mathlib.Core.Path.{ap}
use mathlib.Core.List.{List}
use Prim.Native.Nat.{ℕ}
use native.Mathlib.Omega.{arith}
use lib.ListN.{length}
use Rattle.replies.specs.declared.Numbers.{Numbers}
use Rattle.replies.proofs.Filled.{filled}
use Rattle.replies.proofs.with_values.Goals as goal

pub returns : goal.returns
returns c =
    let s = c.args.values.now in
    let k = c.loop-i.invariant in
    let all = filled 8 c.loop-i.all s k.0 (λ i l. k.1 i (omega arith)) (λ i g. k.2 i (omega arith)) in
    ap (λ (l : List ℕ). let n : Numbers = record { number = 0; at = 0; count = length s; values = l } in n) all
