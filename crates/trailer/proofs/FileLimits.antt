-- The limits 1 to 5 one after another, as the code tests them.
use Rattle.std.specs.Prelude.{Ok, Err}
use mathlib.Core.Path.{◌≡◌, ap, ◌∙◌}
use mathlib.Core.Bool.{Bool, true, false}
use mathlib.Core.List.{List}
use Prim.Native.Nat.{ℕ, ◌-◌, ◌≤◌, ◌<◌}
use lib.Dec.{eqb}
use lib.ListN.{length, take, drop}
use borrow.Author.Tests.{lt-ltb, le-ltb}
use Rattle.event.specs.declared.Refusal.TheVariants.{TraceTooShort, TraceTooLong, MarkDiffers, BadLines, LengthDiffers}
use Rattle.trailer.specs.declared.Trailer.{Trailer}
use Rattle.trailer.specs.Trailer.{trailer_bytes, has_mark, trailer_from, trailer_of, bad_window, end_of, opened_of}
use Rattle.trailer.proofs.Parts.{rest_taken}

module _ (s : List ℕ) where
  -- the bytes from a place on, as the code takes them
  abbrev from : ℕ → List ℕ
  from at = take (length s - at) (drop at s)

  last16 : {at : ℕ} → at ≡ length s - 16 → from at ≡ trailer_bytes s
  last16 place = ap from place ∙ rest_taken (length s - 16) s

  -- the trailer is read from the last 16 bytes, which are all where there are fewer
  pub last_trailer : {at : ℕ} → at ≡ length s - 16 → {t : Trailer} → t ≡ trailer_from (from at) → t ≡ trailer_of s
  unfolding trailer_of
  last_trailer place read = read ∙ ap trailer_from (last16 place)

  pub too_short : length s < 16 → Err TraceTooShort ≡ opened_of s
  unfolding opened_of
  too_short k = rw (lt-ltb (length s) 16 k)

  module _ (enough : 16 ≤ length s) where
    pub too_long : 65536 < length s → Err TraceTooLong ≡ opened_of s
    unfolding opened_of
    too_long k = rw (le-ltb (length s) 16 enough, lt-ltb 65536 (length s) k)

    module _ (few : length s ≤ 65536) {at : ℕ} (place : at ≡ length s - 16) where
      module _ {m : Bool} (marked : m ≡ has_mark (from at)) where
        is_mark : m ≡ has_mark (trailer_bytes s)
        is_mark = marked ∙ ap has_mark (last16 place)

        pub mark_differs : m ≡ false → Err MarkDiffers ≡ opened_of s
        unfolding opened_of
        mark_differs k = rw (le-ltb (length s) 16 enough, le-ltb 65536 (length s) few, ← is_mark, k)

        module _ (same : m ≡ true) {t : Trailer} (read : t ≡ trailer_from (from at)) where
          is_trailer : t ≡ trailer_of s
          is_trailer = last_trailer place read

          pub bad_lines_lem : {b : Bool} → b ≡ bad_window t → b ≡ true → Err BadLines ≡ opened_of s
          unfolding opened_of
          bad_lines_lem e k = rw (le-ltb (length s) 16 enough, le-ltb 65536 (length s) few, ← is_mark, same, ← is_trailer, ← e, k)

          module _ {b : Bool} (window : b ≡ bad_window t) (fine : b ≡ false) where
            pub length_differs : {a : Bool} → a ≡ eqb (end_of t) (length s) → a ≡ false → Err LengthDiffers ≡ opened_of s
            unfolding opened_of
            length_differs e k = rw (le-ltb (length s) 16 enough, le-ltb 65536 (length s) few, ← is_mark, same, ← is_trailer, ← window, fine, ← e, k)

            pub opens : {a : Bool} → a ≡ eqb (end_of t) (length s) → a ≡ true → Ok t ≡ opened_of s
            unfolding opened_of
            opens e k = rw (le-ltb (length s) 16 enough, le-ltb 65536 (length s) few, ← is_mark, same, ← is_trailer, ← window, fine, ← e, k)
