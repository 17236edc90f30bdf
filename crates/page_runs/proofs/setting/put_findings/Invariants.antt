-- The first findings are put, and what is added to the next one is known.
use Rattle.std.proofs.Common.{◌≡◌, ◌*◌, ◌%◌, length}
use Rattle.page_runs.specs.Setting.{findings_put}
use Rattle.page_runs.proofs.setting.put_findings.Given as goal

abbrev pub invariant-loop-i : goal.invariant-loop-i
invariant-loop-i l =
    (length l.space ≡ length l.fn.space) × (l.more ≡ l.step * l.i % 65536) × (l.space ≡ findings_put l.fn.space l.at l.bytes l.i)
