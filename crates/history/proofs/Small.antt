-- The starred small runs: the answers are those of document 01, and of document 02 where a request changed them.
use mathlib.Core.Path.{◌≡◌, refl}
use mathlib.Core.List.{[], map}
use Rattle.history.specs.Count.{count, last, first}
use Rattle.history.specs.History.{is}
use Rattle.history.specs.Interval.{last_store, back_after, fence_after, closing_fence}
use Rattle.history.specs.Transaction.{depth, outermost}
use Rattle.history.specs.Found.{lowest, lowest_pair, finding_by}
use Rattle.history.specs.Refused.{refusal_by}
use Rattle.history.specs.Given.{answer_of, answers}
use Rattle.history.specs.Small.{SmallRun, small_runs, recorded}

pub small_runs_lem : map (λ (run : SmallRun). answers 2 [] (recorded run.given)) small_runs ≡ map (λ (run : SmallRun). run.answers) small_runs
unfolding count last first is last_store back_after fence_after closing_fence depth outermost lowest lowest_pair finding_by refusal_by answer_of answers
small_runs_lem = refl
