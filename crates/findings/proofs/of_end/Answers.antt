-- `findings::of_end` meets its contract: each way out goes by the tests that led there.
-- Assumes nothing.
use mathlib.Core.Path.{sym, ◌∙◌}
use native.Mathlib.Omega.{arith}
use borrow.Author.Tests.{eq-eqb, lt-ltb}
use Rattle.searches.proofs.Searched.{found_by_lem, lowest_below}
use Rattle.findings.proofs.of_end.Goals as goal

pub lost_at-requires : goal.lost_at-requires
lost_at-requires c = λ b h. omega (arith, lowest_below _ _ _ (sym (found_by_lem _ c.first_since_begin-s.ensures) ∙ h))

pub returns : goal.returns
returns c =
    rw (
      ← found_by_lem _ c.first_since_begin-s.ensures,
      eq-eqb _ 1 c.if-counts-ne1.false,
      lt-ltb _ _ c.if-counts.false,
      c.lost_at.ensures,
    )
