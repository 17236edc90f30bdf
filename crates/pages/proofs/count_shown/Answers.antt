-- No more are shown than there are.
use Rattle.std.proofs.Common.{◌≡◌, ◌≤◌, ℕ, List, arith, length, inl}
use Rattle.finding_lines.specs.declared.Shown.{Shown}
use Rattle.finding_lines.specs.Rows.{rows_from}
use Rattle.finding_lines.specs.Shown.{rows_left}
use Rattle.finding_lines.proofs.Rows.{rows_few}
use Rattle.pages.proofs.count_shown.Goals as goal

few : (s : Shown) (count : ℕ) (area : List ℕ) → rows_left s ≡ rows_from 0 count area → length (rows_left s) ≤ count
few s count area e = rw e (rows_few 0 count area)

pub count-requires-clause-fits : goal.count-requires-clause-fits
count-requires-clause-fits c = inl (omega (arith, few c.new.result c.args.count c.args.findings.now c.new.ensures))

pub overflow_cast-result : goal.overflow_cast-result
overflow_cast-result c = omega (arith, few c.new.result c.args.count c.args.findings.now c.new.ensures, c.count.ensures.bound)
