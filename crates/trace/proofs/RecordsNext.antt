-- The records of a part: the first of them and the others, and how many there are.
use mathlib.Core.Path.{◌≡◌, refl, ap, ap₂}
use mathlib.Core.List.{List, ◌∷◌}
use Prim.Native.Nat.{ℕ, zero, suc, ◌+◌, ◌*◌}
use native.Mathlib.Omega.{arith}
use lib.ListN.{length, drop}
use lib.Seq.{drop-drop}
use Rattle.event.specs.Answers.{Parsed}
use Rattle.records.specs.Record.{record_size, parsed}
use Rattle.trace.specs.Records.{records_of}
use Rattle.trace.proofs.FirstBytes.{parsed_first}

-- the bytes from one record more on
next_part : (i : ℕ) (s : List ℕ) → drop record_size (drop (record_size * i) s) ≡ drop (record_size * (i + 1)) s
next_part i s = let place : record_size * i + record_size ≡ record_size * (i + 1) = omega arith in rw (drop-drop, place)

-- the record with i before it, and the n after it
pub records_next : (n i : ℕ) (s : List ℕ) →
    records_of (suc n) (drop (record_size * i) s) ≡ parsed (drop (record_size * i) s) ∷ records_of n (drop (record_size * (i + 1)) s)
unfolding records_of
records_next n i s =
    ap₂ (λ (p : Parsed) (rest : List ℕ). p ∷ records_of n rest) (parsed_first (drop (record_size * i) s)) (next_part i s)

-- as many records as are counted
pub records_counted : (n : ℕ) (s : List ℕ) → length (records_of n s) ≡ n
unfolding records_of
records_counted zero s = refl
records_counted (suc n) s = ap suc (records_counted n (drop record_size s))
