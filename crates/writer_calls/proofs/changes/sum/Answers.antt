-- Each step of the fold adds a byte behind those before it.
use Rattle.std.proofs.Common.{◌≡◌, ◌+◌, ◌*◌, ◌%◌, ◌∙◌, refl, rules}
use Rattle.std.proofs.lemmas.Fn.{fold_over, fronts}
use Rattle.std.proofs.lemmas.Iterator.{YieldsList-from_slice}
use Rattle.writer_calls.specs.Changes.{sum_of}
use Rattle.writer_calls.proofs.Sums.{sum_next}
use Rattle.writer_calls.proofs.changes.sum.Goals as goal

pub returns : goal.returns
returns c =
    fold_over fronts _ _ (λ ys r. r ≡ sum_of 0 ys) _
    (λ ys a x b f' j k. let next : b ≡ (a * 31 % 65536 + x.now) % 65536 = search rules in (next ∙ sum_next ys x.now j, search rules))
    c.iter.result c.args.s.now 0 c.fold.result (YieldsList-from_slice {s = c.iter.result} c.args.s.now cc).runs refl c.fold.ensures.ran
