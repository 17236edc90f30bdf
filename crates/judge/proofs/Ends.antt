-- The verdict and the area from where the records lead, for either outcome of their check.
use Rattle.std.specs.Prelude.{Ok, Err}
use mathlib.Core.Path.{◌≡◌, ap, ◌∙◌}
use mathlib.Core.List.{List, ◌++◌}
use Prim.Native.Nat.{ℕ, ◌≤◌}
use native.Mathlib.Nat.{zero-add}
use native.Mathlib.Omega.{arith}
use lib.ListN.{length, take, drop}
use lib.Seq.{length-take-le}
use Rattle.codec.specs.Placed.{placed}
use Rattle.codec.proofs.Placed.{placed_laid}
use Rattle.event.specs.declared.TraceRefusal.{TraceRefusal}
use Rattle.event.specs.Answers.{totals}
use Rattle.record_step.specs.Step.{Stage}
use Rattle.pass.specs.Pass.{Passed}
use Rattle.pass.proofs.Bare.{bare_passed}
use Rattle.judge.specs.Ends.{verdict_by, area_by}

module _ (size : ℕ) (area : List ℕ) (e : Passed) {given : Passed} (same : given ≡ bare_passed e) where
  same_check : given.check ≡ e.check
  same_check = ap (λ (e : Passed). e.check) same

  -- a refusal
  pub ends_refused : {r : TraceRefusal} → Err r ≡ given.check → (Err r ≡ verdict_by e) × (area ≡ area_by size e area)
  ends_refused k = let known = k ∙ same_check in (rw (← known), rw (← known))

  -- none: the totals, and the buffer in front of the area
  pub ends_passed : Ok tt ≡ given.check → {end : Stage} → end ≡ given.stage → {front : List ℕ} → front ≡ take size end.buffer →
      (totals end.run.counts.events end.run.counts.fences end.run.counts.findings ≡ verdict_by e) × (front ++ drop size area ≡ area_by size e area)
  ends_passed k held copied =
      let known = k ∙ same_check in
      let there = held ∙ ap (λ (e : Passed). e.stage) same in
      (rw (← known, there), rw (← known, copied, there))

-- the buffer
pub ends_buffer : (e : Passed) {given : Passed} → given ≡ bare_passed e → {end : Stage} → end ≡ given.stage → end.buffer ≡ e.stage.buffer
ends_buffer e same held = ap (λ (s : Stage). s.buffer) (held ∙ ap (λ (e : Passed). e.stage) same)

-- so many of its bytes, put in front of the area
pub ends_put : (size : ℕ) (buffer area : List ℕ) → size ≤ length buffer → size ≤ length area →
    placed 0 (take size buffer) area ≡ take size buffer ++ drop size area
ends_put size buffer area held inside =
    let front : length (take size buffer) ≡ size = length-take-le size buffer held in
    placed_laid area (take size buffer) 0 (omega arith) ∙ (rw (zero-add, front))
