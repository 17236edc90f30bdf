-- Bytes put at a place of a slice.
use mathlib.Core.Path.{◌≡◌, refl, sym, ap, ap₂, subst, ◌∙◌}
use mathlib.Core.Bool.{Bool, true, false, cond}
use mathlib.Core.List.{List, ◌++◌, append_assoc}
use Prim.Native.Nat.{ℕ, ◌+◌, ◌-◌, ◌≤◌, ◌<◌}
use native.Mathlib.Numerals.{add-one}
use native.Mathlib.Omega.{arith}
use lib.Dec.{leb}
use lib.ListN.{length, get_or, set, take, drop, length-append}
use lib.Seq.{paste, paste-suc, length-paste, take-length, drop-drop, length-take-le, take_at, drop_at, take-take, get_or-take, get_or-drop}
use borrow.Author.Tests.{leb-true, le-leb, lt-leb}
use Rattle.codec.specs.Placed.{laid, placed}

-- one byte more
pub put_more : (d : List ℕ) (at : ℕ) (bytes : List ℕ) (i : ℕ) {area : List ℕ} → area ≡ paste d at bytes i → at + i < length d → i < length bytes →
    set area (at + i) (get_or bytes i 0) ≡ paste d at bytes (i + 1)
put_more d at bytes i e inside more = rw (e, add-one) (paste-suc d at bytes i 0 inside more)

-- bytes that do not fit
pub not_placed : (d : List ℕ) (at : ℕ) (bytes : List ℕ) → length d < at + length bytes → d ≡ placed at bytes d
not_placed d at bytes past = rw (lt-leb (at + length bytes) (length d) past)

-- all of those that do
pub put_all : (d : List ℕ) (at : ℕ) (bytes : List ℕ) → at + length bytes ≤ length d → paste d at bytes (length bytes) ≡ placed at bytes d
put_all d at bytes inside = rw (le-leb (at + length bytes) (length d) inside, take-length bytes)

-- bytes that are laid where they fit
module _ (d bytes : List ℕ) (at : ℕ) (inside : at + length bytes ≤ length d) where
  pub placed_laid : placed at bytes d ≡ laid at bytes d
  placed_laid = rw (le-leb (at + length bytes) (length d) inside)

  front_length : length (take at d ++ bytes) ≡ at + length bytes
  front_length = length-append (take at d) bytes ∙ (rw (length-take-le at d (omega arith)))

  -- the slice keeps its length
  pub laid_length : length (laid at bytes d) ≡ length d
  laid_length = rw take-length at (length-paste d at bytes (length bytes) inside (omega arith))

  -- what stands before their end
  pub laid_front : take (at + length bytes) (laid at bytes d) ≡ take at d ++ bytes
  laid_front = take_at (take at d ++ bytes) (drop (at + length bytes) d) (at + length bytes) front_length

  -- and before them
  pub laid_head : take at (laid at bytes d) ≡ take at d
  laid_head =
      sym (take-take at (at + length bytes) (laid at bytes d) (omega arith)) ∙ ap (take at) laid_front ∙
      take_at (take at d) bytes at (length-take-le at d (omega arith))

  -- what stands from their end on did not change
  laid_rest : (k : ℕ) → drop (at + length bytes + k) (laid at bytes d) ≡ drop (at + length bytes + k) d
  laid_rest k =
      sym (drop-drop k (at + length bytes) (laid at bytes d)) ∙
      ap (drop k) (drop_at (take at d ++ bytes) (drop (at + length bytes) d) (at + length bytes) front_length) ∙
      drop-drop k (at + length bytes) d

  -- so every other byte is as it was
  pub laid_before : (i : ℕ) → i < at → get_or (laid at bytes d) i 0 ≡ get_or d i 0
  laid_before i k = sym (get_or-take at (laid at bytes d) i 0 k) ∙ ap (λ (l : List ℕ). get_or l i 0) laid_head ∙ get_or-take at d i 0 k

  pub laid_behind : (i : ℕ) → at + length bytes ≤ i → get_or (laid at bytes d) i 0 ≡ get_or d i 0
  laid_behind i k =
      let n = at + length bytes in
      let place : n + (i - n) + 0 ≡ i = omega arith in
      subst (λ (j : ℕ). get_or (laid at bytes d) j 0 ≡ get_or d j 0) place
      (sym (get_or-drop (n + (i - n)) (laid at bytes d) 0 0) ∙ ap (λ (l : List ℕ). get_or l 0 0) (laid_rest (i - n)) ∙ get_or-drop (n + (i - n)) d 0 0)

  -- and bytes laid behind them stand there too
  pub both_placed : (more : List ℕ) (k : ℕ) →
      take (at + length bytes) (placed at bytes d) ++ more ++ drop (at + length bytes + k) (placed at bytes d) ≡
      take at d ++ (bytes ++ more) ++ drop (at + length bytes + k) d
  both_placed more k =
      ap (λ (l : List ℕ). take (at + length bytes) l ++ more ++ drop (at + length bytes + k) l) placed_laid ∙
      ap₂ (λ (front rest : List ℕ). front ++ more ++ rest) laid_front (laid_rest k) ∙
      ap (λ (front : List ℕ). front ++ drop (at + length bytes + k) d) (append_assoc (take at d) bytes more)

-- put or not, the slice keeps its length
pub placed_length : (d : List ℕ) (at : ℕ) (bytes : List ℕ) → length (placed at bytes d) ≡ length d
placed_length d at bytes = go (leb (at + length bytes) (length d)) refl
  where
    go : (b : Bool) → leb (at + length bytes) (length d) ≡ b → length (cond b (laid at bytes d) d) ≡ length d
    go true k = laid_length d bytes at (leb-true (at + length bytes) (length d) k)
    go false k = refl
