-- Before the loop nothing is put. Each turn puts one finding more, and what is added to the next one follows.
use Rattle.std.proofs.Common.{◌∙◌, rules}
use Rattle.page_runs.specs.Setting.{findings_put}
use Rattle.page_runs.proofs.Findings.{next_more, put_more}
use Rattle.page_runs.proofs.setting.put_findings.Goals as goal

pub loop-i-init : goal.loop-i-init
unfolding findings_put
loop-i-init c = search rules

pub loop-i-preserved : goal.loop-i-preserved
loop-i-preserved c =
    let inv = c.loop-i.invariant in (
      search rules,
      next_more _ c.loop-i.i inv.1,
      c.put.ensures ∙ put_more c.args.space.now c.args.at c.args.bytes.now c.loop-i.i inv.2 (inv.1 ∙ (rw c.u16_at-step.ensures)) c.finding-one.ensures,
    )
