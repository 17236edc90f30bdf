-- What a program's report, which is a closure, makes of its input.
use Rattle.std.specs.Prelude.{◌≡◌, ℕ, List}
use Rattle.std.specs.Fn.{Once}
use denote.Ref.{Bor, MutBor}

-- called at the input and at a text, it may answer n and leave the new text
pub record Reports {F T : Type 0} (g : Once F (Bor (List ℕ) × (MutBor T × Unit {0})) (ℕ × (MutBor T × Unit {0}))) (f : F) (input : List ℕ) (old : T) (n : ℕ)
    (new : T) : Type 0 where
  pub read : Bor (List ℕ)
  pub reads : read.now ≡ input
  pub shown : MutBor T
  pub shows : shown.now ≡ old
  pub left : MutBor T
  pub met : g.post f (read, (shown, tt)) (n, (left, tt))
  pub leaves : left.now ≡ new
