-- The site of an event, read from the bytes of the record with its number.
use mathlib.Core.Path.{◌≡◌, refl, sym, ap, ◌∙◌}
use mathlib.Core.List.{List}
use Prim.Native.Nat.{ℕ, zero, suc, ◌+◌, ◌*◌, ◌-◌, ◌≤◌, ◌<◌}
use native.Mathlib.Omega.{arith}
use lib.ListN.{drop}
use Rattle.event.specs.Answers.{Parsed}
use Rattle.records.specs.Record.{record_size, parsed}
use Rattle.trace.specs.Records.{records_of}
use Rattle.trace.proofs.RecordsNext.{records_next}
use Rattle.trace_interval.specs.TraceInterval.{site_of, site_after, site_in}

-- the record with i before it, of those from record `from` on
site_from : (count from i : ℕ) (s : List ℕ) → i < count →
    site_after (records_of count (drop (record_size * from) s)) i ≡ site_of (parsed (drop (record_size * (from + i)) s))
unfolding site_after
site_from zero from i s k = absurd (omega arith)
site_from (suc n) from zero s k =
    let place : from ≡ from + 0 = omega arith in
    rw (records_next, ← place)
site_from (suc n) from (suc i) s k =
    let place : from + 1 + i ≡ from + suc i = omega arith in
    rw (records_next, ← place) (site_from n (from + 1) i s (omega arith))

-- past the last record there is none
site_past : (count i : ℕ) (s : List ℕ) → count ≤ i → site_after (records_of count s) i ≡ 0
unfolding site_after records_of
site_past zero i s k = refl
site_past (suc n) zero s k = absurd (omega arith)
site_past (suc n) (suc i) s k = site_past n i (drop record_size s) (omega arith)

module _ (count : ℕ) (s : List ℕ) where
  -- an event with a record has its site
  pub site_read : (event : ℕ) → 0 < event → event ≤ count → {p : Parsed} → p ≡ parsed (drop (record_size * (event - 1)) s) →
      site_of p ≡ site_in (records_of count s) event
  site_read zero some k is = absurd (omega arith)
  site_read (suc i) some k is =
      let place : suc i - 1 ≡ 0 + i = omega arith in
      ap site_of is ∙ (rw place (sym (site_from count 0 i s (omega arith))))

  -- an event without one has none
  pub site_none : (event : ℕ) → count < event → 0 ≡ site_in (records_of count s) event
  site_none zero k = refl
  site_none (suc i) k = sym (site_past count i s (omega arith))
