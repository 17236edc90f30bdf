-- What the judge leaves and what is printed, compared with what the corpus says.
use Rattle.std.proofs.Common.{◌≡◌, ℕ, Bool, true, false, List, sym, ◌∙◌}
use Rattle.event.proofs.Bools.{contradiction}
use Rattle.verdict.specs.Verdict.{area_after}
use Rattle.listing.specs.Report.{report_of}
use Rattle.corpus.specs.Agrees.{Agrees, Tests}

module _ (trace area : List ℕ) {after text left printed : List ℕ} {sameArea sameText : Bool}
    (leaves : left ≡ area_after trace area) (prints : printed ≡ report_of trace area)
    (area-tested : Tests sameArea (left ≡ after)) (text-tested : Tests sameText (printed ≡ text)) where
  -- where the area is the same, the text decides
  pub by_text : sameArea ≡ true → Tests sameText (Agrees trace area after text)
  by_text e = ((λ t. (sym leaves ∙ area-tested.0 e, sym prints ∙ text-tested.0 t)), (λ k. text-tested.1 (prints ∙ k.1)))

  -- and where it is not, the area does
  pub by_area : sameArea ≡ false → Tests sameArea (Agrees trace area after text)
  by_area e = ((λ t. absurd (contradiction t e)), (λ k. area-tested.1 (leaves ∙ k.0)))
