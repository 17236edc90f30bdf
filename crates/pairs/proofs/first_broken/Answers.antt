-- The search over what is left is the whole search, for the bytes that may be lost with one kept byte, also after the skip, and for the
-- kept bytes; one that was never stored to has no partner.
use mathlib.Core.Path.{refl, sym, ◌∙◌}
use Prim.Native.Nat.{ℕ}
use native.Mathlib.Omega.{arith}
use Rattle.event.specs.declared.Range.{Range}
use Rattle.searches.proofs.FromFront.{left_next}
use Rattle.searches.proofs.Parts.{skip_same}
use Rattle.pairs.proofs.Broken.{never_broken}
use Rattle.pairs.proofs.FromFront.{pair_here, pair_later, pair_never, pair_nothing}
use Rattle.pairs.proofs.first_broken.Goals as goal
use Rattle.pairs.proofs.first_broken.Goals.{then-store-ne0+else-loop-lost-test, else-store-ne0}

abbrev range : (at n : ℕ) → Range
range at n = record { address = at; length = n }

pub loop-lost-init : goal.loop-lost-init
loop-lost-init c = (refl, skip_same _ _ _ c.skip-lost.ensures)

pub loop-lost-preserved : goal.loop-lost-preserved
loop-lost-preserved c =
    let k = c.loop-lost.invariant in (k.0, left_next _ _ _ (omega arith) (sym c.if-passes.ensures) ∙ k.1)

pub kept-preserved : goal.kept-preserved
kept-preserved c =
    let a = c.args in
    let k = c.kept.invariant in
    elim c.if-store-ne0.branch [
      | then-store-ne0+else-loop-lost-test w ↦ (
        w.found-is ∙ w.loop-lost.invariant.0 ∙ k.0,
        pair_later _ (range a.at a.n) a.start a.m _ k.1 _ w.loop-lost.invariant.1 (omega arith) (omega arith),
      )
      | else-store-ne0 w ↦ (
        w.found-is ∙ k.0,
        pair_never _ (range a.at a.n) a.start a.m _ k.1 (never_broken a.stored.now a.fenced.now c.kept.kept w.if-store-ne0.false) (omega arith),
      )
    ]

pub returns-after-kept : goal.returns-after-kept
returns-after-kept c =
    let a = c.args in c.kept.invariant.0 ∙ pair_nothing _ (range a.at a.n) a.start a.m _ c.kept.invariant.1 (omega arith)

pub returns-then-passes : goal.returns-then-passes
returns-then-passes c =
    let a = c.args in
    pair_here _ (range a.at a.n) a.start a.m _ c.kept.invariant.1 _ c.loop-lost.invariant.1 (omega arith) (omega arith)
    (sym c.if-passes.ensures)
