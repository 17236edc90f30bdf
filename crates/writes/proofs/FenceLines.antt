-- What a fence does to the bytes of the lines from one up to another.
use mathlib.Core.Path.{◌≡◌, sym, ◌∙◌}
use mathlib.Core.Bool.{false, ◌&&◌}
use mathlib.Core.List.{List}
use Prim.Native.Nat.{ℕ, ◌+◌, ◌-◌, ◌*◌, ◌≤◌, ◌<◌}
use native.Mathlib.Omega.{arith}
use borrow.Author.Tests.{le-leb, lt-ltb, le-ltb}
use lib.Dec.{leb, ltb}
use Rattle.window.specs.Window.{window_bytes, line_of, line_start}
use Rattle.history.specs.Found.{lowest}
use Rattle.searches.specs.declared.Test.TheVariants.{Since}
use Rattle.tables.specs.Table.{entry, changed}
use Rattle.searches.specs.Tests.{is_found, passing}
use Rattle.writes.specs.Fenced.{fence_now, fenced_by}
use Rattle.tables.proofs.Table.{changed_add, changed_same, changed_kept}
use Rattle.searches.proofs.Parts.{none_there}

module _ (fence number : ℕ) (stored backed : List ℕ) where
  -- these bytes after the fence
  abbrev pub fenced_lines : (from to : ℕ) → List ℕ → List ℕ
  fenced_lines from to xs = changed (fenced_by fence number stored backed) (window_bytes from) (window_bytes (to - from)) xs

  -- none of them
  pub lines_none : (from : ℕ) (xs : List ℕ) → xs ≡ fenced_lines from from xs
  unfolding changed
  lines_none from xs = let none : (from - from) * 64 ≡ 0 = omega arith in rw none

  -- first those up to a line between, and then those from it on
  pub lines_more : {ys zs : List ℕ} (from l to : ℕ) (xs : List ℕ) → from ≤ l → l ≤ to →
      ys ≡ fenced_lines from l xs → zs ≡ fenced_lines l to ys → zs ≡ fenced_lines from to xs
  lines_more from l to xs h k first next =
      let n : (to - from) * 64 ≡ (l - from) * 64 + (to - l) * 64 = omega arith in
      let at : l * 64 ≡ from * 64 + (l - from) * 64 = omega arith in
      (rw (first, at) at next) ∙
      sym (rw n (changed_add (fenced_by fence number stored backed) (from * 64) ((l - from) * 64) ((to - l) * 64) xs))

  -- lines not written back since the last fence are as they were
  lines_kept : (l to : ℕ) (xs : List ℕ) → ((k : ℕ) → l ≤ k → k < to → ltb fence (entry backed k) ≡ false) → fenced_lines l to xs ≡ xs
  lines_kept l to xs h =
      changed_kept (fenced_by fence number stored backed) (l * 64) ((to - l) * 64) xs
      (λ k a b. rw (h (line_of k) (omega arith) (omega arith)))

  -- one such line
  pub line_passed : (l : ℕ) (xs : List ℕ) → entry backed l ≤ fence → xs ≡ fenced_lines l (l + 1) xs
  line_passed l xs h =
      sym (lines_kept l (l + 1) xs (λ k a b. let same : k ≡ l = omega arith in rw (same, le-ltb fence (entry backed l) h)))

  -- eight such lines
  pub eight_passed : (l : ℕ) (xs : List ℕ) → l ≤ 56 → leb l 56 && is_found (lowest (passing (Since fence) backed backed) l 8) ≡ false →
      xs ≡ fenced_lines l (l + 8) xs
  eight_passed l xs h e =
      sym (lines_kept l (l + 8) xs (none_there (passing (Since fence) backed backed) l 8 (rw (le-leb l 56 h) at e)))

  -- of a line written back since, the open bytes last stored to before the write-back close
  pub line_closed : {ys : List ℕ} {at : ℕ} (l : ℕ) (xs : List ℕ) → fence < entry backed l → l < 64 → at ≡ line_start l →
      ys ≡ changed (λ b old. fence_now (entry backed l) number (entry stored b) old) at 64 xs → ys ≡ fenced_lines l (l + 1) xs
  line_closed l xs h low start closed =
      let at_line : line_start l ≡ l * 64 = rw (lt-ltb l 64 low) in
      let one : (l + 1 - l) * 64 ≡ 64 = omega arith in
      (rw (start ∙ at_line) at closed) ∙
      sym
      (rw one
      (changed_same (fenced_by fence number stored backed) (λ b old. fence_now (entry backed l) number (entry stored b) old) (l * 64) 64 xs
      (λ k a b. let on_line : line_of k ≡ l = omega arith in rw (on_line, lt-ltb fence (entry backed l) h))))
