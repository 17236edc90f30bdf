-- What laying out a findings area answers, and what the page area then holds.
use Rattle.std.specs.Prelude.{List, [], ◌∷◌, ◌++◌, ℕ, zero, suc, length, drop, Ok, Err}
use Rattle.event.specs.Answers.{Check}
use Rattle.event.specs.Numbers.{number_of}
use Rattle.event.specs.Reply.{Reply, reply_by}
use Rattle.history.specs.Refused.{first_broken}
use Rattle.page_layout.specs.Pages.{findings_in, pages_of}
use Rattle.pages.specs.declared.PageRefusal.{PageRefusal}
use Rattle.pages.specs.Answers.{Paged, refused_finding}
use Rattle.pages.specs.Limits.{whole_limits, damage_limits, room_limits}

-- where a check passes, the rest decides; where it does not, the area is refused at this position
abbrev pub unless_broken : Check → ℕ → Paged → Paged
unless_broken (Ok _) position rest = rest
unless_broken (Err x) position rest = refused_finding x position

-- so many findings after the first ones: the first damaged one, by its position from 1; where none is, the rest decides
unfoldable pub unless_damaged : (before count : ℕ) → List ℕ → Paged → Paged
unless_damaged before zero findings rest = rest
unless_damaged before (suc count) findings rest =
    unless_broken (first_broken (damage_limits before findings)) (suc before) (unless_damaged (suc before) count findings rest)

-- pages of so many bytes in a page area of so many
abbrev pub in_room : (room size : ℕ) → Paged
in_room room size = unless_broken (first_broken (room_limits room size)) 0 (Ok size)

-- 5 at 0, then 6 and 7 finding by finding, then 16 at 0; else the length
unfoldable pub paged_of : List ℕ → (room : ℕ) → Paged
paged_of findings room =
    unless_broken (first_broken (whole_limits findings)) 0
    (unless_damaged 0 (findings_in findings) findings
    (in_room room (length (pages_of findings))))

-- a refusal's number and its position, or the length written
abbrev pub page_refusal_reply : PageRefusal → Reply
page_refusal_reply r = Reply.refused (number_of r.refusal) r.position

abbrev pub paged_reply : Paged → Reply
paged_reply p = reply_by (λ length. length ∷ []) page_refusal_reply p

-- a refusal leaves the page area as it was; else it starts with the pages, and the bytes beyond do not change
abbrev pub page_area_for : Paged → (findings area : List ℕ) → List ℕ
page_area_for (Err r) findings area = area
page_area_for (Ok length) findings area = pages_of findings ++ drop length area

unfoldable pub page_area_after : (findings area : List ℕ) → List ℕ
page_area_after findings area = page_area_for (paged_of findings (length area)) findings area
