-- What text leaves in a slice that it is put into: as much of it as there is room for, and the bytes beyond as they were.
use mathlib.Core.Path.{◌≡◌, sym, ap, ap₂, ◌∙◌}
use mathlib.Core.List.{List, [], ◌∷◌, ◌++◌}
use Prim.Native.Nat.{ℕ, ◌+◌, ◌≤◌, ◌<◌, min}
use native.Mathlib.Omega.{arith}
use lib.ListN.{length, take, drop, length-append, length-take}
use lib.Seq.{take_all, take-append_seam, drop-append_seam, set-append_seam, append_snoc, drop-nil}
use borrow.Author.Tests.{lt-ltb, le-ltb}
use Rattle.text.specs.Text.{Out, out, put_byte, put}

-- one byte where there is room, and one where there is none
module _ (b : ℕ) (a : List ℕ) where
  room : (x : ℕ) (d : List ℕ) → put_byte b (out (a ++ x ∷ d) (length a)) ≡ out (a ++ b ∷ [] ++ d) (length (a ++ b ∷ []))
  room x d =
      let inside : length a < length (a ++ x ∷ d) = omega (arith, length-append a (x ∷ d)) in
      rw (lt-ltb (length a) (length (a ++ x ∷ d)) inside, set-append_seam a x d b, append_snoc a b d, length-append a (b ∷ []))

  full : put_byte b (out (a ++ []) (length a)) ≡ out (a ++ []) (length a)
  full = rw (le-ltb (length a) (length (a ++ [])) (omega (arith, length-append a [])))

-- text put after other bytes
put_after : (s a d : List ℕ) →
    put s (out (a ++ d) (length a)) ≡ out (a ++ (take (length d) s ++ drop (length s) d)) (length a + min (length s) (length d))
unfolding put
put_after [] a [] = ap (out (a ++ [])) (omega arith)
put_after [] a (x ∷ d) = ap (out (a ++ x ∷ d)) (omega arith)
put_after (b ∷ s) a [] =
    rw (full b a, put_after s a [], drop-nil (length s)) (ap (out (a ++ [])) (omega arith))
put_after (b ∷ s) a (x ∷ d) =
    rw (room b a x d, put_after s (a ++ b ∷ []) d)
    (ap₂ out (append_snoc a b (take (length d) s ++ drop (length s) d)) (omega (arith, length-append a (b ∷ []))))

-- a text that fits is all there, and the bytes beyond do not change
pub record Fits (s d : List ℕ) : Type 0 where
  pub text : take (length s) (put s (out d 0)).bytes ≡ s
  pub next : (put s (out d 0)).next ≡ length s
  pub beyond : drop (length s) (put s (out d 0)).bytes ≡ drop (length s) d

-- the slice that a call left, and its answer, where it put a text that fits
pub record Whole (s d text : List ℕ) (n : ℕ) : Type 0 where
  pub within : n ≤ length text
  pub counted : n ≡ length (take n text)
  pub report : take n text ≡ s
  pub beyond : drop n text ≡ drop n d

module _ (s d : List ℕ) where
  -- the first of its bytes, and the rest of the slice
  pub filled : put s (out d 0) ≡ out (take (length d) s ++ drop (length s) d) (min (length s) (length d))
  filled = put_after s [] d ∙ ap (out (take (length d) s ++ drop (length s) d)) (omega arith)

  pub whole : length s ≤ length d → Fits s d
  whole k =
      let rest = drop (length s) d in
      record {
        text = rw (filled, take_all (length d) s k) (take-append_seam s rest);
        next = rw filled (omega arith);
        beyond = rw (filled, take_all (length d) s k) (drop-append_seam s rest);
      }

  pub whole_put : length s ≤ length d → {text : List ℕ} {n : ℕ} → out text n ≡ put s (out d 0) → Whole s d text n
  whole_put k {text} {n} e =
      let w = whole k in
      let bytes : text ≡ (put s (out d 0)).bytes = ap (λ (o : Out). o.bytes) e in
      let size : n ≡ length s = ap (λ (o : Out). o.next) e ∙ w.next in
      let all : take n text ≡ s = rw (size, bytes) w.text in
      let counted : n ≡ length (take n text) = size ∙ sym (ap length all) in
      record {
        within = omega (arith, counted, length-take n text);
        counted = counted;
        report = all;
        beyond = rw (size, bytes) w.beyond;
      }
