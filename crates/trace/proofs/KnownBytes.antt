-- A trace that is opened is laid out as its parts: free bytes, the part of its records, the bytes of its trailer.
use Rattle.std.specs.Prelude.{Ok}
use mathlib.Core.Path.{◌≡◌, ap, subst, ◌∙◌}
use mathlib.Core.Bool.{true}
use mathlib.Core.List.{List, ◌++◌}
use Prim.Native.Nat.{ℕ, ◌-◌, ◌≤◌, ◌<◌}
use native.Mathlib.Omega.{arith}
use lib.Dec.{eqb}
use lib.ListN.{length, take, get_or}
use borrow.Author.Tests.{not-false, eqb-true, ltb-false}
use Rattle.history.specs.Refused.{NoneBroken}
use Rattle.trailer.specs.declared.Trailer.{Trailer}
use Rattle.trailer.specs.Trailer.{trailer_size, trailer_bytes, has_mark, trailer_of, trailer_with, end_of, file_limits, opened_of}
use Rattle.trailer.proofs.Parts.{three_parts}
use Rattle.trailer.proofs.Lines.{window_zero}
use Rattle.trailer.proofs.Written.{opened, trailer_laid}
use Rattle.trace.specs.Records.{record_part}

-- the bytes are free bytes, the part of the records, and the bytes of the trailer
abbrev Laid : List ℕ → Trailer → Type 0
Laid s t = s ≡ take t.offset s ++ record_part t.offset s ++ trailer_with t.offset t.count t.lines

module _ (s : List ℕ) (small : (i : ℕ) → get_or s i 0 < 256) where
  -- bytes that break no limit are laid out as their trailer says
  unbroken_laid : NoneBroken (file_limits s) → Laid s (trailer_of s)
  unbroken_laid (NoneBroken.cons a (NoneBroken.cons b (NoneBroken.cons c (NoneBroken.cons d (NoneBroken.cons e f))))) =
      let enough : trailer_size ≤ length s = ltb-false (length s) trailer_size a in
      let marked : has_mark (trailer_bytes s) ≡ true = not-false (has_mark (trailer_bytes s)) c in
      let ends : end_of (trailer_of s) ≡ length s = eqb-true (end_of (trailer_of s)) (length s) (not-false (eqb (end_of (trailer_of s)) (length s)) e) in
      three_parts (trailer_of s).offset (length s - trailer_size) s (omega arith) ∙
      ap (λ (rest : List ℕ). take (trailer_of s).offset s ++ record_part (trailer_of s).offset s ++ rest)
      (trailer_laid s small enough marked (window_zero (trailer_of s) d))

-- so a trace is laid out as the trailer says that it is opened with
pub known_bytes : (s : List ℕ) {t : Trailer} → ((i : ℕ) → get_or s i 0 < 256) → opened_of s ≡ Ok t →
    s ≡ take t.offset s ++ record_part t.offset s ++ trailer_with t.offset t.count t.lines
known_bytes s {t} small k = subst (Laid s) (opened s k).trailer (unbroken_laid s small (opened s k).limits)
