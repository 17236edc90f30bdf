-- The answer to a findings area and a page area, from what the parts of the code answer.
use Rattle.std.specs.Prelude.{Ok, Err}
use mathlib.Core.Path.{◌≡◌, refl, sym, ap, ◌∙◌}
use mathlib.Core.Bool.{Bool, true, false, not}
use mathlib.Core.List.{List, [], ◌∷◌}
use Prim.Native.Nat.{ℕ, zero, suc, ◌+◌, ◌*◌, ◌%◌, ◌≤◌, ◌<◌}
use native.Mathlib.Omega.{arith}
use lib.Dec.{eqb, ltb}
use lib.ListN.{length, get_or}
use lib.Seq.{take_all}
use borrow.Author.Tests.{ltb-false, lt-ltb, le-ltb}
use Rattle.event.specs.declared.Refusal.{Refusal}
use Rattle.event.specs.declared.Refusal.TheVariants.{LengthDiffers, PageAreaTooShort}
use Rattle.event.specs.Answers.{Check}
use Rattle.event.proofs.Bools.{or_neither}
use Rattle.history.specs.Refused.{limit, first_broken, most_events}
use Rattle.codec.specs.Codec.{finding_size}
use Rattle.text.specs.Text.{Out, out, put}
use Rattle.text.proofs.Filled.{filled}
use Rattle.finding_lines.specs.Rows.{rows_from}
use Rattle.page_layout.specs.Pages.{pages_from, page_count, findings_in, shown_in, pages_of}
use Rattle.page_layout.proofs.Size.{pages_length}
use Rattle.pages.specs.Answers.{Paged, refused_finding}
use Rattle.pages.specs.Limits.{bad_length, whole_limits, damage_limits}
use Rattle.pages.specs.Paged.{unless_broken, unless_damaged, in_room, paged_of, page_area_after}

-- pages in a page area that is too short, and in one that is not
pub too_short : (room size : ℕ) → room < size → refused_finding PageAreaTooShort 0 ≡ in_room room size
too_short room size k = rw (lt-ltb room size k)

pub enough_room : (room size : ℕ) → size ≤ room → Ok size ≡ in_room room size
enough_room room size k = rw (le-ltb room size k)

-- an area that is not refused as a whole has at most 65,535 findings
pub few_findings : (findings : List ℕ) → bad_length findings ≡ false → findings_in findings ≤ 65535
few_findings findings e =
    ltb-false most_events (findings_in findings) (or_neither (not (eqb (length findings % finding_size) 0)) (ltb most_events (findings_in findings)) e).1

module _ (findings : List ℕ) (bytes : (i : ℕ) → get_or findings i 0 < 256) (room : ℕ) {flag : Bool} (tested : flag ≡ bad_length findings) where
  -- 5
  pub refused_whole : flag ≡ true → refused_finding LengthDiffers 0 ≡ paged_of findings room
  unfolding paged_of
  refused_whole e = rw (← tested, e)

  -- else the findings decide, and then the room
  pub checked_rest : {count shown size : ℕ} {answer result : Paged} → flag ≡ false → count ≡ findings_in findings % 65536 → shown ≡ length (rows_from 0 count findings) →
      size ≡ 62 * (2 * page_count shown + shown) → answer ≡ in_room room size → result ≡ unless_damaged 0 count findings answer → result ≡ paged_of findings room
  unfolding paged_of
  checked_rest {count} {shown} {size} e c s z a r =
      let whole : bad_length findings ≡ false = sym tested ∙ e in
      let few = few_findings findings whole in
      let all : count ≡ findings_in findings = omega arith in
      let rows : shown ≡ length (shown_in findings) = s ∙ ap (λ (n : ℕ). length (rows_from 0 n findings)) all in
      let long : size ≡ length (pages_of findings) =
      z ∙ ap (λ (n : ℕ). 62 * (2 * page_count n + n)) rows ∙ sym (pages_length findings bytes few) in
      rw (whole, r, a, all, long)

-- what was written
pub record IsWritten (findings : List ℕ) (room n : ℕ) : Type 0 where
  pub whole : bad_length findings ≡ false
  pub size : n ≡ length (pages_of findings)
  pub fits : length (pages_of findings) ≤ room

unless_written : (c : Check) (position : ℕ) (rest : Paged) {n : ℕ} → unless_broken c position rest ≡ Ok n → (c ≡ (Ok tt)) × (rest ≡ Ok n)
unless_written (Ok _) position rest e = (refl, e)
unless_written (Err x) position rest e = let z : ◌≡◌ {A = ℕ} 0 1 = cc in absurd (omega arith)

undamaged_written : (before count : ℕ) (findings : List ℕ) (rest : Paged) {n : ℕ} → unless_damaged before count findings rest ≡ Ok n → rest ≡ Ok n
unfolding unless_damaged
undamaged_written before zero findings rest e = e
undamaged_written before (suc count) findings rest e =
    undamaged_written (suc before) count findings rest
    (unless_written (first_broken (damage_limits before findings)) (suc before) (unless_damaged (suc before) count findings rest) e).1

room_written : (room size : ℕ) {n : ℕ} → in_room room size ≡ Ok n → (n ≡ size) × (size ≤ room)
room_written room size {n} e = go (ltb room size) refl
  where
    go : (b : Bool) → ltb room size ≡ b → (n ≡ size) × (size ≤ room)
    go true t = let wrong : refused_finding PageAreaTooShort 0 ≡ Ok n = rw t at e in let z : ◌≡◌ {A = ℕ} 0 1 = cc in absurd (omega arith)
    go false t = let same : Ok size ≡ Ok n = rw t at e in (cc, ltb-false room size t)

passes : (b : Bool) (x : Refusal) → first_broken (limit b x ∷ []) ≡ (Ok tt) → b ≡ false
passes true x e = let z : ◌≡◌ {A = ℕ} 0 1 = cc in absurd (omega arith)
passes false x e = refl

pub is_written : (findings : List ℕ) (room : ℕ) {n : ℕ} → paged_of findings room ≡ Ok n → IsWritten findings room n
unfolding paged_of
is_written findings room e =
    let size = length (pages_of findings) in
    let first = unless_written (first_broken (whole_limits findings)) 0 (unless_damaged 0 (findings_in findings) findings (in_room room size)) e in
    let last = room_written room size (undamaged_written 0 (findings_in findings) findings (in_room room size) first.1) in
    record { whole = passes (bad_length findings) LengthDiffers first.0; size = last.0; fits = last.1 }

-- a refusal leaves the page area as it was
module _ (findings area : List ℕ) {answer : Paged} (answers : answer ≡ paged_of findings (length area)) where
  pub area_kept : {x : Refusal} {position : ℕ} → answer ≡ refused_finding x position → area ≡ page_area_after findings area
  unfolding page_area_after
  area_kept e = rw (← answers, e)

  -- else the pages are at its start
  pub area_written_lem : {size count shown pages next : ℕ} {after : List ℕ} → answer ≡ Ok size → count ≡ findings_in findings % 65536 →
      shown ≡ length (rows_from 0 count findings) → pages ≡ page_count shown →
      out after next ≡ put (pages_from pages 1 pages (rows_from 0 count findings)) (out area 0) → after ≡ page_area_after findings area
  unfolding pages_of page_area_after
  area_written_lem {size} {count} {shown} {pages} {after = after} e c s q p =
      let w = is_written findings (length area) (sym answers ∙ e) in
      let few = few_findings findings w.whole in
      let all : count ≡ findings_in findings = omega arith in
      let rows : shown ≡ length (shown_in findings) = s ∙ ap (λ (n : ℕ). length (rows_from 0 n findings)) all in
      let text_after : pages_from pages 1 pages (rows_from 0 count findings) ≡ pages_of findings = rw (all, q, rows) in
      let bytes : after ≡ (put (pages_of findings) (out area 0)).bytes =
      ap (λ (o : Out). o.bytes) (p ∙ ap (λ (s : List ℕ). put s (out area 0)) text_after) in
      rw (← answers, e, bytes, filled (pages_of findings) area, take_all (length area) (pages_of findings) w.fits, w.size)
