-- `pairs::first_broken` meets its contract: the search over what is left is the whole search, for the bytes that may be lost with one
-- kept byte, also after the skip, and for the kept bytes; one that was never stored to has no partner.
-- Assumes nothing.
use mathlib.Core.Path.{◌≡◌}
use Prim.Native.Nat.{◌+◌}
use Rattle.std.specs.Prelude.{None}
use Rattle.event.specs.declared.Range.{Range}
use Rattle.history.specs.Found.{lowest}
use Rattle.searches.proofs.FromFront.{left}
use Rattle.pairs.specs.Pairs.{broken_pair}
use Rattle.pairs.proofs.FromFront.{left_pair}
use Rattle.pairs.proofs.first_broken.Given as goal

abbrev pub invariant-loop-lost : goal.invariant-loop-lost
invariant-loop-lost l =
    let p = broken_pair l.stored l.fenced l.kept in (l.found ≡ l.initial.found) × (left p (l.at + l.n) l.lost ≡ lowest p l.at l.n)

abbrev pub invariant-kept : goal.invariant-kept
invariant-kept l =
    let p = broken_pair l.stored l.fenced in
    let a : Range = record { address = l.at; length = l.n } in
    (l.found ≡ None) × (left_pair p a (l.start + l.m) l.kept ≡ left_pair p a (l.start + l.m) l.start)
