-- The refusal's two numbers, and then the first values.
use native.Mathlib.Omega.{arith}
use Rattle.pmjudge_c.proofs.Row.{row}
use Rattle.pmjudge_c.proofs.first_values.Goals as goal

pub returns : goal.returns
returns g c =
    let n = c.args.n in
    let r = c.requires in
    rw c.from.ensures (row g.row.N n.number n.at n.values c.copy_from_slice.new.self r.small (omega arith) c.copy_from_slice.ensures.after)
