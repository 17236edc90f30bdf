-- The limits decide in their order.
use Rattle.std.proofs.Common.{arith}
use Rattle.pages.proofs.Whole.{refused_whole, checked_rest}
use Rattle.pages.proofs.checked.Goals as goal

pub returns-then-is_bad_length : goal.returns-then-is_bad_length
returns-then-is_bad_length c =
    let k = c.args in
    rw c.from.ensures (refused_whole k.findings.now (λ i. omega (arith, c.type_inv.findings i)) k.room c.is_bad_length.ensures c.if-is_bad_length.true)

pub returns : goal.returns
returns c =
    let k = c.args in
    checked_rest k.findings.now (λ i. omega (arith, c.type_inv.findings i)) k.room c.is_bad_length.ensures c.if-is_bad_length.false
    c.findings_in-count.ensures c.count_shown.ensures c.length_of-length.ensures c.in_room.ensures c.unless_damaged.ensures
