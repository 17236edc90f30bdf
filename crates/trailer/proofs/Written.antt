-- The trailer of a trace that is opened: the bytes that it is read from are those that the writer puts.
use Rattle.std.specs.Prelude.{Ok, Err}
use mathlib.Core.Path.{◌≡◌, refl, sym, ap, ap₂, ◌∙◌}
use mathlib.Core.Bool.{true}
use mathlib.Core.List.{List, [], ◌∷◌, ◌++◌}
use Prim.Native.Nat.{ℕ, ◌+◌, ◌-◌, ◌≤◌, ◌<◌}
use native.Mathlib.Omega.{arith}
use lib.ListN.{length, take, get_or, length-drop, take-append-drop}
use lib.Seq.{get_or-drop}
use Rattle.event.specs.Answers.{Check}
use Rattle.codec.specs.Codec.{u16_at, u32_at, u16_bytes, u32_bytes}
use Rattle.codec.proofs.Meaning.{u16_round_trip, u32_round_trip, u16_bytes_lem, u32_bytes_lem}
use Rattle.history.specs.Refused.{first_broken, NoneBroken}
use Rattle.limits.proofs.Passed.{passed_unbroken}
use Rattle.trailer.specs.declared.Trailer.{Trailer}
use Rattle.trailer.specs.Trailer.{trailer_size, mark, trailer_bytes, has_mark, trailer_from, trailer_of, trailer_with, file_limits, opened_for, opened_of}
use Rattle.trailer.proofs.Parts.{entries, left_entries}
use Rattle.trailer.proofs.SameBytes.{same_bytes_lem}

-- a trailer of these fields, whose zero field is 0
abbrev pub trailer : (offset count lines : ℕ) → Trailer
trailer offset count lines = record { offset = offset; count = count; lines = lines; zero = 0 }

-- its bytes are read back
pub trailer_read_back : (offset count lines : ℕ) → trailer_from (trailer_with offset count lines) ≡ trailer offset count lines
trailer_read_back offset count lines =
    λ i. record { offset = u32_round_trip offset i; count = u32_round_trip count i; lines = u16_round_trip lines i; zero = 0 }

module _ (t : List ℕ) (small : (i : ℕ) → get_or t i 0 < 256) where
  -- the bytes of a number that was read at a place are those at the place
  two_bytes : (i : ℕ) → u16_bytes (u16_at t i) ≡ get_or t i 0 ∷ get_or t (i + 1) 0 ∷ []
  two_bytes i = u16_bytes_lem (get_or t i 0) (get_or t (i + 1) 0) (small i)

  four_bytes : (i : ℕ) → u32_bytes (u32_at t i) ≡ get_or t i 0 ∷ get_or t (i + 1) 0 ∷ get_or t (i + 2) 0 ∷ get_or t (i + 2 + 1) 0 ∷ []
  four_bytes i =
      u32_bytes_lem (get_or t i 0) (get_or t (i + 1) 0) (get_or t (i + 2) 0) (get_or t (i + 2 + 1) 0) (small i) (small (i + 1)) (small (i + 2))

  -- the fields of a trailer whose zero field is 0, written, are its entries after the mark
  fields_written : u16_at t 14 ≡ 0 → trailer_with (u32_at t 4) (u32_at t 8) (u16_at t 12) ≡ mark ++ entries 12 4 t
  fields_written e = λ i. mark ++ four_bytes 4 i ++ four_bytes 8 i ++ two_bytes 12 i ++ zeros i
    where
      zeros : u16_bytes 0 ≡ get_or t 14 0 ∷ get_or t 15 0 ∷ []
      zeros = ap u16_bytes (sym e) ∙ two_bytes 14

  -- so 16 bytes that start with the mark are those of the trailer that is read from them
  trailer_written : length t ≡ 16 → has_mark t ≡ true → u16_at t 14 ≡ 0 → t ≡ trailer_with (u32_at t 4) (u32_at t 8) (u16_at t 12)
  trailer_written long marked e =
      sym (take-append-drop 4 t) ∙
      ap₂ (λ (a b : List ℕ). a ++ b) (same_bytes_lem (take 4 t) mark marked) (left_entries 12 4 t long) ∙
      sym (fields_written e)

-- a trace that is opened breaks no limit, and the trailer that it is opened with is its own
pub record WithinLimits (s : List ℕ) (t : Trailer) : Type 0 where
  pub limits : NoneBroken (file_limits s)
  pub trailer : trailer_of s ≡ t

pub opened : (s : List ℕ) {t : Trailer} → opened_of s ≡ Ok t → WithinLimits s t
unfolding opened_of
opened s {t} e = go (first_broken (file_limits s)) refl e
  where
    go : (c : Check) → first_broken (file_limits s) ≡ c → opened_for c (trailer_of s) ≡ Ok t → WithinLimits s t
    go (Ok _) f k = record { limits = passed_unbroken (file_limits s) f; trailer = cc }
    go (Err x) f k = let z : ◌≡◌ {A = ℕ} 0 1 = cc in absurd (omega arith)

module _ (s : List ℕ) (small : (i : ℕ) → get_or s i 0 < 256) where
  -- the last 16 bytes are those of the trailer
  pub trailer_laid : trailer_size ≤ length s → has_mark (trailer_bytes s) ≡ true → (trailer_of s).zero ≡ 0 →
      trailer_bytes s ≡ trailer_with (trailer_of s).offset (trailer_of s).count (trailer_of s).lines
  unfolding trailer_of
  trailer_laid enough marked clear =
      trailer_written (trailer_bytes s)
      (λ i. rw (get_or-drop (length s - trailer_size) s i 0) (small (length s - trailer_size + i)))
      (omega (arith, length-drop (length s - trailer_size) s))
      marked clear
