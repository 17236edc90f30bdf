-- `events::fence` meets its contract: the numbers with this as the latest fence, and the tables that its calls ensure.
use Rattle.std.proofs.Common.{◌≡◌, ◌∙◌, add-one}
use Rattle.history.specs.Found.{finding_by}
use Rattle.window.specs.Window.{window_bytes}
use Rattle.tables.specs.View.{lines_of}
use Rattle.events.specs.Next.{next_number, one_more, counts_after, tables_after}
use Rattle.events.proofs.FenceClosed.{fence_closed}
use Rattle.tables.specs.Lent.{lent}
use Rattle.events.proofs.fence.Goals as goal

pub returns-clause-value : goal.returns-clause-value
unfolding finding_by
returns-clause-value c = cc

pub returns-clause-run_after : goal.returns-clause-run_after
unfolding counts_after tables_after
returns-clause-run_after c =
    let run = lent c.args.run.now in
    let epoch : c.wrapping_add_u16-epoch.result ≡ one_more run.counts.fences = c.wrapping_add_u16-epoch.ensures.value ∙ rw add-one in
    let closed = fence_closed run (next_number run.counts) (window_bytes (lines_of run.counts)) in
    rw (c.close_epochs.ensures, c.close_lines.ensures, ← closed, c.counted-next.ensures, epoch)
