-- A findings area that is laid out on pages: which finding is damaged first, and what a refusal leaves.
use Rattle.std.specs.Prelude.{◌≡◌, List, ℕ, ◌<◌, length}
use Rattle.event.specs.declared.Refusal.{Refusal}
use Rattle.event.specs.Reply.{Reply}
use Rattle.history.specs.Refused.{First, NoneBroken}
use Rattle.page_layout.specs.Pages.{findings_in}
use Rattle.pages.specs.Limits.{damage_limits}
use Rattle.pages.specs.Paged.{paged_of, paged_reply, page_area_after}

-- the first findings of an area, so many of them, are not damaged
abbrev pub NoneDamaged : ℕ → List ℕ → Type 0
NoneDamaged count findings = (i : ℕ) → i < count → NoneBroken (damage_limits i findings)

-- the finding with so many before it is the first that is damaged, and x refuses it
pub record DamagedFirst (findings : List ℕ) (x : Refusal) (before : ℕ) : Type 0 where
  pub inside : before < findings_in findings
  pub others : NoneDamaged before findings
  pub damage : First (damage_limits before findings) x

-- the area is refused by this number at this position, and the page area is byte for byte as it was
abbrev pub NotPaged : (findings area : List ℕ) → (number position : ℕ) → Type 0
NotPaged findings area number position =
    (paged_reply (paged_of findings (length area)) ≡ Reply.refused number position) × (page_area_after findings area ≡ area)
