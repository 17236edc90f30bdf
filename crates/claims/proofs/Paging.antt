-- Which findings areas are refused when they are laid out, by which number and at which position.
use Rattle.std.specs.Prelude.{Ok}
use mathlib.Core.Path.{◌≡◌, refl, ap, ◌∙◌, subst}
use mathlib.Core.Logic.{◌⊎◌, inl, inr}
use mathlib.Core.List.{List, [], ◌∷◌, ◌++◌}
use Prim.Native.Nat.{ℕ, zero, suc, ◌+◌, ◌≤◌, ◌<◌}
use native.Mathlib.Omega.{arith}
use native.Mathlib.Decide.{ℕ_discrete as dec_eq}
use lib.ListN.{length, drop}
use Rattle.event.specs.declared.Refusal.{Refusal}
use Rattle.event.specs.Numbers.{number_of}
use Rattle.event.specs.Reply.{Reply}
use Rattle.history.specs.Refused.{First, NoneBroken}
use Rattle.history.proofs.Given.{first_broken_lem, none_broken}
use Rattle.page_layout.specs.Pages.{findings_in, pages_of}
use Rattle.pages.specs.Answers.{Paged, refused_finding}
use Rattle.pages.specs.Limits.{whole_limits, damage_limits, room_limits}
use Rattle.pages.specs.Paged.{unless_damaged, in_room, paged_of, paged_reply, page_area_after}
use Rattle.claims.specs.Paging.{NoneDamaged, DamagedFirst, NotPaged}
use Rattle.claims.proofs.Answers.{limited}

module _ (findings : List ℕ) where
  -- among so many findings after the first ones: none is damaged
  abbrev Undamaged : (from count : ℕ) → Type 0
  Undamaged from count = (i : ℕ) → from ≤ i → i < from + count → NoneBroken (damage_limits i findings)

  undamaged : (from count : ℕ) (rest : Paged) → Undamaged from count → unless_damaged from count findings rest ≡ rest
  unfolding unless_damaged
  undamaged from zero rest k = refl
  undamaged from (suc count) rest k =
      rw (none_broken (k from (omega arith) (omega arith))) (undamaged (suc from) count rest (λ i a b. k i (omega arith) (omega arith)))

  -- or one is the first
  damaged : (from count before : ℕ) (rest : Paged) {x : Refusal} → from ≤ before → before < from + count →
      ((i : ℕ) → from ≤ i → i < before → NoneBroken (damage_limits i findings)) → First (damage_limits before findings) x →
      unless_damaged from count findings rest ≡ refused_finding x (suc before)
  unfolding unless_damaged
  damaged from zero before rest a b others k = absurd (omega arith)
  damaged from (suc count) before rest {x} a b others k = go (dec_eq from before) (damaged (suc from) count before rest)
    where
      go : Dec (from ≡ before) →
          (suc from ≤ before → before < suc from + count → ((i : ℕ) → suc from ≤ i → i < before → NoneBroken (damage_limits i findings)) →
          First (damage_limits before findings) x → unless_damaged (suc from) count findings rest ≡ refused_finding x (suc before)) →
          unless_damaged from (suc count) findings rest ≡ refused_finding x (suc before)
      go (yes e) more = rw (e, first_broken_lem k)
      go (no e) more =
          rw (none_broken (others from (omega arith) (omega (arith, e))))
          (more (omega (arith, e)) (omega arith) (λ i c d. others i (omega arith) d) k)

  -- one of both
  abbrev Decided : (from count : ℕ) → Type 0
  Decided from count =
      ((x : Refusal) × (before : ℕ) × (from ≤ before) × (before < from + count) ×
      ((i : ℕ) → from ≤ i → i < before → NoneBroken (damage_limits i findings)) × First (damage_limits before findings) x) ⊎
      Undamaged from count

  decided : (from count : ℕ) → Decided from count
  decided from zero = inr (λ i a b. absurd (omega arith))
  decided from (suc count) = go (limited (damage_limits from findings)) (decided (suc from) count)
    where
      -- a finding is this one, or one after it
      here : NoneBroken (damage_limits from findings) → (P : ℕ → Type 0) → ((i : ℕ) → suc from ≤ i → P i → NoneBroken (damage_limits i findings)) →
          (i : ℕ) → from ≤ i → P i → NoneBroken (damage_limits i findings)
      here k P later i a p = at (dec_eq from i)
        where
          at : Dec (from ≡ i) → NoneBroken (damage_limits i findings)
          at (yes e) = subst (λ (n : ℕ). NoneBroken (damage_limits n findings)) e k
          at (no e) = later i (omega (arith, e)) p

      go : ((x : Refusal) × First (damage_limits from findings) x) ⊎ NoneBroken (damage_limits from findings) → Decided (suc from) count → Decided from (suc count)
      go (inl (x, k)) more = inl (x, from, omega arith, omega arith, (λ i a b. absurd (omega arith)), k)
      go (inr k) (inl (x, before, a, b, others, d)) = inl (x, before, omega arith, omega arith, here k (λ i. i < before) others, d)
      go (inr k) (inr none) = inr (here k (λ i. i < from + suc count) (λ i a b. none i a (omega arith)))

module _ (findings area : List ℕ) where
  -- a refusal leaves the page area as it was
  not_paged : {x : Refusal} {position : ℕ} → paged_of findings (length area) ≡ refused_finding x position → NotPaged findings area (number_of x) position
  unfolding page_area_after
  not_paged e = (ap paged_reply e, rw e)

  pub pages_refused_lem : {x : Refusal} → First (whole_limits findings) x → NotPaged findings area (number_of x) 0
  unfolding paged_of
  pages_refused_lem {x} k = not_paged {x = x} {position = 0} (rw (first_broken_lem k))

  module _ (whole : NoneBroken (whole_limits findings)) where
    -- where the area as a whole is not refused, its findings decide
    after_whole : paged_of findings (length area) ≡ unless_damaged 0 (findings_in findings) findings (in_room (length area) (length (pages_of findings)))
    unfolding paged_of
    after_whole = rw (none_broken whole)

    pub damage_refused_lem : {x : Refusal} {before : ℕ} → DamagedFirst findings x before → NotPaged findings area (number_of x) (suc before)
    damage_refused_lem {x} {before} d =
        not_paged
        (after_whole ∙ damaged findings 0 (findings_in findings) before (in_room (length area) (length (pages_of findings))) (omega arith) (omega (arith, d.inside))
        (λ i a b. d.others i b) d.damage)

    module _ (sound : NoneDamaged (findings_in findings) findings) where
      -- and then the room
      after_findings : paged_of findings (length area) ≡ in_room (length area) (length (pages_of findings))
      after_findings =
          after_whole ∙ undamaged findings 0 (findings_in findings) (in_room (length area) (length (pages_of findings))) (λ i a b. sound i (omega arith))

      pub room_refused : {x : Refusal} → First (room_limits (length area) (length (pages_of findings))) x → NotPaged findings area (number_of x) 0
      room_refused {x} k = not_paged {x = x} {position = 0} (after_findings ∙ (rw (first_broken_lem k)))

      pub pages_taken_lem : NoneBroken (room_limits (length area) (length (pages_of findings))) →
          (paged_reply (paged_of findings (length area)) ≡ Reply.values (length (pages_of findings) ∷ [])) ×
          (page_area_after findings area ≡ pages_of findings ++ drop (length (pages_of findings)) area)
      unfolding page_area_after
      pages_taken_lem k =
          let answer : paged_of findings (length area) ≡ Ok (length (pages_of findings)) = after_findings ∙ (rw (none_broken k)) in
          (ap paged_reply answer, rw answer)

pub damage_decided_lem : (findings : List ℕ) → ((x : Refusal) × (before : ℕ) × DamagedFirst findings x before) ⊎ NoneDamaged (findings_in findings) findings
damage_decided_lem findings = go (decided findings 0 (findings_in findings))
  where
    go : Decided findings 0 (findings_in findings) → ((x : Refusal) × (before : ℕ) × DamagedFirst findings x before) ⊎ NoneDamaged (findings_in findings) findings
    go (inl (x, before, a, b, others, d)) = inl (x, before, record { inside = omega arith; others = λ i c. others i (omega arith) c; damage = d })
    go (inr none) = inr (λ i b. none i (omega arith) (omega arith))
