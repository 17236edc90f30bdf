-- The kinds that are left lead to what all of them do.
use Rattle.std.proofs.Common.{◌≡◌, ◌-◌}
use Rattle.corpus.specs.Tally.{kinds_from}
use Rattle.corpus.proofs.count_kinds.Given as goal

abbrev pub invariant-loop-i : goal.invariant-loop-i
invariant-loop-i l = kinds_from l.i (l.events - l.i) l.area l.kinds ≡ kinds_from 0 l.events l.area l.initial.kinds
