-- The checks of a trace in their order: the trailer, the area, the records.
use Rattle.std.specs.Prelude.{Ok, Err}
use mathlib.Core.Path.{◌≡◌, refl, ap, ◌∙◌}
use mathlib.Core.Bool.{Bool, true, false, cond}
use mathlib.Core.Logic.{◌⊎◌, inl, inr}
use mathlib.Core.List.{List, [], ◌∷◌, ◌++◌}
use Prim.Native.Nat.{ℕ, ◌*◌, ◌≤◌, ◌<◌}
use native.Mathlib.Omega.{arith}
use lib.Dec.{eqb, ltb}
use lib.ListN.{length}
use borrow.Author.Tests.{lt-ltb, le-ltb, ltb-false, eqb-true, not-false}
use Rattle.event.specs.declared.Refusal.{Refusal}
use Rattle.event.specs.declared.Refusal.TheVariants.{AreaTooShort}
use Rattle.event.specs.Answers.{Check, refused_at}
use Rattle.window.specs.Window.{most_lines}
use Rattle.history.specs.Refused.{Limit, first_broken, NoneBroken}
use Rattle.history.proofs.Given.{none_broken}
use Rattle.trailer.specs.declared.Trailer.{Trailer}
use Rattle.trace.specs.Answers.{TraceCheck}
use Rattle.trailer.specs.Trailer.{most_bytes, trailer_of, end_of, file_limits, opened_for, opened_of}
use Rattle.trace.specs.Records.{lines_in, records_in}
use Rattle.trace.specs.Checked.{unless_broken, check_all}
use Rattle.trailer.proofs.Lines.{window_lines, few_lines}
use Rattle.trailer.proofs.Written.{opened}
use Rattle.verdict.specs.Verdict.{area_size, area_limits, trace_limits, trace_check}
use Rattle.codec.specs.Codec.{finding_size}

-- where a check and the rest after it pass, both do
pub unless_passed : (c : Check) (n : ℕ) (rest : TraceCheck) → unless_broken c n rest ≡ (Ok tt) → (c ≡ (Ok tt)) × (rest ≡ (Ok tt))
unless_passed (Ok _) n rest e = (refl, e)
unless_passed (Err x) n rest e = let z : ◌≡◌ {A = ℕ} 0 1 = cc in absurd (omega arith)

-- the first of more limits that is broken is the first of the first ones, if one of those is broken
broken_first : (xs ys : List Limit) {x : Refusal} → first_broken xs ≡ Err x → first_broken (xs ++ ys) ≡ Err x
broken_first [] ys e = let z : ◌≡◌ {A = ℕ} 0 1 = cc in absurd (omega arith)
broken_first (l ∷ xs) ys {x} e = go l.broken e (λ k. broken_first xs ys k)
  where
    go : (b : Bool) → cond b (Err l.number) (first_broken xs) ≡ Err x → (first_broken xs ≡ Err x → first_broken (xs ++ ys) ≡ Err x) →
        cond b (Err l.number) (first_broken (xs ++ ys)) ≡ Err x
    go true k rest = k
    go false k rest = rest k

-- and else the first of the others
broken_later : (xs ys : List Limit) → first_broken xs ≡ (Ok tt) → first_broken (xs ++ ys) ≡ first_broken ys
broken_later [] ys e = refl
broken_later (l ∷ xs) ys e = go l.broken e (λ k. broken_later xs ys k)
  where
    go : (b : Bool) → cond b (Err l.number) (first_broken xs) ≡ (Ok tt) → (first_broken xs ≡ (Ok tt) → first_broken (xs ++ ys) ≡ first_broken ys) →
        cond b (Err l.number) (first_broken (xs ++ ys)) ≡ first_broken ys
    go true k rest = let z : ◌≡◌ {A = ℕ} 0 1 = cc in absurd (omega arith)
    go false k rest = rest k

module _ (s area : List ℕ) where
  -- a trailer that is refused is so by the first limit that is broken
  pub not_opened : {x : Refusal} → opened_of s ≡ Err x → first_broken (file_limits s) ≡ Err x
  unfolding opened_of
  not_opened {x} e = go (first_broken (file_limits s)) e
    where
      go : (c : Check) → opened_for c (trailer_of s) ≡ Err x → c ≡ Err x
      go (Ok _) k = let z : ◌≡◌ {A = ℕ} 0 1 = cc in absurd (omega arith)
      go (Err y) k = cc

  -- the trailer is refused
  pub refused_trailer : {x : Refusal} → opened_of s ≡ Err x → trace_check s area ≡ refused_at x 0
  refused_trailer k =
      ap (λ (c : Check). unless_broken c 0 (check_all (lines_in s) (records_in s))) (broken_first (file_limits s) (area_limits s area) (not_opened k))

  module _ {t : Trailer} (known : opened_of s ≡ Ok t) where
    -- the limits 1 to 5 pass
    limits_pass : first_broken (trace_limits s area) ≡ first_broken (area_limits s area)
    limits_pass = broken_later (file_limits s) (area_limits s area) (none_broken (opened s known).limits)

    -- the area is too short
    pub refused_area : length area < finding_size * t.count → trace_check s area ≡ refused_at AreaTooShort 0
    refused_area k = rw (limits_pass, (opened s known).trailer, lt-ltb (length area) (finding_size * t.count) k)

    -- else the records decide
    pub records_decide : finding_size * t.count ≤ length area → trace_check s area ≡ check_all (lines_in s) (records_in s)
    records_decide k =
        let fits : area_size s ≤ length area = omega (arith, ap (λ (t : Trailer). t.count) (opened s known).trailer) in
        rw (limits_pass, le-ltb (length area) (area_size s) fits)

    -- the window has at most 64 lines
    pub window_fits : lines_in s ≤ most_lines
    window_fits = go (opened s known).limits
      where
        go : NoneBroken (file_limits s) → lines_in s ≤ most_lines
        go (NoneBroken.cons a (NoneBroken.cons b (NoneBroken.cons c (NoneBroken.cons d e)))) = few_lines (lines_in s) (window_lines (trailer_of s) d)

    -- and the findings of its records at most 65,520 bytes: the longest trace without its trailer
    pub records_fit : finding_size * t.count ≤ 65520
    records_fit = go (opened s known).limits
      where
        go : NoneBroken (file_limits s) → finding_size * t.count ≤ 65520
        go (NoneBroken.cons a (NoneBroken.cons b (NoneBroken.cons c (NoneBroken.cons d (NoneBroken.cons e f))))) =
            let whole = ltb-false most_bytes (length s) b in
            let ends = eqb-true (end_of (trailer_of s)) (length s) (not-false (eqb (end_of (trailer_of s)) (length s)) e) in
            omega (arith, whole, ends, ap (λ (t : Trailer). t.count) (opened s known).trailer)

-- the area aside, a trace is refused by its file and its records alone
pub area_aside : (s area : List ℕ) →
    (trace_check s area ≡ unless_broken (first_broken (file_limits s)) 0 (check_all (lines_in s) (records_in s))) ⊎ (trace_check s area ≡ refused_at AreaTooShort 0)
area_aside s area = go (first_broken (file_limits s)) refl (ltb (length area) (area_size s)) refl
  where
    rest : TraceCheck
    rest = check_all (lines_in s) (records_in s)

    decides : (c : Check) → first_broken (trace_limits s area) ≡ c → trace_check s area ≡ unless_broken c 0 rest
    decides c e = ap (λ (c : Check). unless_broken c 0 rest) e

    go : (c : Check) → first_broken (file_limits s) ≡ c → (short : Bool) → ltb (length area) (area_size s) ≡ short →
        (trace_check s area ≡ unless_broken c 0 rest) ⊎ (trace_check s area ≡ refused_at AreaTooShort 0)
    go (Err x) e short a = inl (decides (Err x) (broken_first (file_limits s) (area_limits s area) e))
    go (Ok _) e true a = inr (decides (Err AreaTooShort) (broken_later (file_limits s) (area_limits s area) e ∙ (rw a)))
    go (Ok _) e false a = inl (decides (Ok tt) (broken_later (file_limits s) (area_limits s area) e ∙ (rw a)))
