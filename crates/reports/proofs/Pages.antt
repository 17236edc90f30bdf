-- The pages or the refusal in the text.
use Rattle.std.specs.Prelude.{Ok}
use mathlib.Core.Path.{◌≡◌, sym, ap, ◌∙◌}
use mathlib.Core.List.{List}
use Prim.Native.Nat.{ℕ, min}
use native.Mathlib.Omega.{arith}
use lib.ListN.{length}
use lib.Seq.{take_all}
use Rattle.event.specs.declared.Refusal.{Refusal}
use Rattle.event.specs.Numbers.{number_of}
use Rattle.text.specs.Text.{out, put}
use Rattle.text.proofs.Filled.{filled}
use Rattle.lines.specs.Lines.{refusal_line}
use Rattle.page_layout.specs.Pages.{pages_of}
use Rattle.pages.specs.Answers.{Paged, refused_finding}
use Rattle.pages.specs.Paged.{paged_of, page_area_after}
use Rattle.pages.proofs.Whole.{is_written}
use Rattle.reports.specs.Pages.{report_of}

-- the refusal is put, or the pages are there
module _ (area text : List ℕ) {answer : Paged} (answers : answer ≡ paged_of area (length text)) where
  pub refusal_put : {x : Refusal} {position number next : ℕ} {after left : List ℕ} → answer ≡ refused_finding x position → number ≡ number_of x →
      left ≡ page_area_after area text → out after next ≡ put (refusal_line number position) (out left 0) →
      out after next ≡ put (report_of area (length text)) (out text 0)
  unfolding report_of page_area_after
  refusal_put e k l p = rw (← answers, e, ← k) (rw (← answers, e) at (rw l at p))

  pub pages_put : {n : ℕ} {left : List ℕ} → answer ≡ Ok n → left ≡ page_area_after area text → out left n ≡ put (report_of area (length text)) (out text 0)
  unfolding report_of page_area_after
  pages_put {n} e l =
      let w = is_written area (length text) (sym answers ∙ e) in
      let all : length (pages_of area) ≡ min (length (pages_of area)) (length text) = omega (arith, w.fits) in
      rw (← answers, e, l, filled (pages_of area) text, take_all (length text) (pages_of area) w.fits, ← answers, e, w.size) (ap (out _) all)
