-- What is left of the check leads to what the whole check does.
use Rattle.std.proofs.Common.{sym, ◌∙◌, arith}
use Rattle.pages.proofs.Undamaged.{one_damaged, not_damaged, none_damaged}
use Rattle.pages.proofs.unless_damaged.Goals as goal

pub returns-in-Err : goal.returns-in-Err
returns-in-Err c =
    let k = c.args in
    let l = c.loop-before in
    one_damaged k.findings.now l.before k.count k.answer (omega arith) (sym c.in-Err.ensures) ∙ l.invariant

pub loop-before-preserved : goal.loop-before-preserved
loop-before-preserved c =
    let k = c.args in
    let l = c.loop-before in
    not_damaged k.findings.now l.before k.count k.answer (omega arith) (sym c.in-Ok.ensures) ∙ l.invariant

pub returns : goal.returns
returns c =
    let k = c.args in
    let l = c.loop-before in
    none_damaged k.findings.now l.before k.count k.answer (omega arith) ∙ l.invariant
