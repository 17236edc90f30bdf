-- `findings::of_persisted` meets its contract: the search is over the bytes of the range, which are within the tables.
-- Assumes nothing.
use mathlib.Core.Path.{sym, ◌∙◌}
use native.Mathlib.Omega.{arith}
use Rattle.searches.proofs.Searched.{found_by_lem, lowest_below}
use Rattle.findings.proofs.of_persisted.Goals as goal

pub lost_at-requires : goal.lost_at-requires
lost_at-requires c = λ b h. omega (arith, lowest_below _ _ _ (sym (found_by_lem _ c.first_open-s.ensures) ∙ h))

pub returns : goal.returns
returns c = rw (← found_by_lem _ c.first_open-s.ensures, c.lost_at.ensures)
