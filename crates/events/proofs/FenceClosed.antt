-- A fence closes the bytes of the run that a judge closes.
use Rattle.std.proofs.Common.{◌≡◌, ℕ, Bool, true, false, cond, ◌&&◌, ltb, leb, refl, arith, ltb-true, le-leb}
use Rattle.event.proofs.Bools.{or_right}
use Rattle.window.specs.Window.{line_of}
use Rattle.tables.specs.Run.{Run}
use Rattle.tables.specs.Table.{entry, changed}
use Rattle.tables.specs.View.{line_open}
use Rattle.tables.proofs.Table.{changed_same}
use Rattle.writes.specs.Fenced.{fenced_by}
use Rattle.events.specs.Next.{closes}

-- a line written back since the last fence may have an open byte
line_open_lem : (fence dirtied backed : ℕ) → ltb fence backed ≡ true → line_open fence dirtied backed ≡ true
line_open_lem fence dirtied backed e = or_right (leb backed dirtied) (le-leb fence backed (omega (arith, ltb-true fence backed e)))

pub fence_closed : (run : Run) (number n : ℕ) →
    changed (fenced_by run.counts.fence number run.stored run.backed) 0 n run.fenced ≡
    changed (λ b old. cond (closes run b) number old) 0 n run.fenced
fence_closed run number n =
    changed_same (fenced_by run.counts.fence number run.stored run.backed) (λ b old. cond (closes run b) number old) 0 n run.fenced
    (λ b h k.
    let back = entry run.backed (line_of b) in
    closes_test (line_open run.counts.fence (entry run.dirtied (line_of b)) back) (ltb (entry run.fenced b) (entry run.stored b))
    (ltb (entry run.stored b) back) (ltb run.counts.fence back) (line_open_lem run.counts.fence (entry run.dirtied (line_of b)) back)
    (entry run.fenced b))
  where
    closes_test : (line older since fresh : Bool) → (fresh ≡ true → line ≡ true) → (old : ℕ) →
        cond fresh (cond (older && since) number old) old ≡ cond (line && older && since && fresh) number old
    closes_test line older since true e old = rw (e refl) (go (older && since))
      where
        go : (t : Bool) → cond t number old ≡ cond (t && true) number old
        go true = refl
        go false = refl
    closes_test line older since false e old = go (line && older && since)
      where
        go : (t : Bool) → old ≡ cond (t && false) number old
        go true = refl
        go false = refl
