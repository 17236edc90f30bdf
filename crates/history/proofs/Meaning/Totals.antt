-- The count of findings other than none, in plain words.
use Rattle.std.specs.Prelude.{Ok, Err}
use mathlib.Core.Path.{◌≡◌, ap, ◌∙◌}
use mathlib.Core.Bool.{Bool, cond}
use mathlib.Core.Logic.{◌≢◌}
use mathlib.Core.List.{List, ◌∷◌}
use Prim.Native.Nat.{◌+◌}
use native.Mathlib.Omega.{arith}
use borrow.Author.Tests.{eq-eqb, ne_eqb}
use Rattle.event.specs.declared.Finding.{Finding}
use Rattle.event.specs.declared.Refusal.{Refusal}
use Rattle.event.specs.Answers.{Answer}
use Rattle.event.specs.Numbers.{fields_of}
use Rattle.history.specs.Given.{reported}

module _ (rest : List Answer) where
  -- a refusal and a finding of kind 0 are not counted
  pub refused_uncounted : (x : Refusal) → reported (Err x ∷ rest) ≡ reported rest
  unfolding reported
  refused_uncounted x = omega arith

  pub none_uncounted : (f : Finding) → (fields_of f).kind ≡ 0 → reported (Ok f ∷ rest) ≡ reported rest
  unfolding reported
  none_uncounted f e = ap (λ (none : Bool). cond none 0 1 + reported rest) (eq-eqb (fields_of f).kind 0 e) ∙ (omega arith)

  -- a finding of any other kind is one more
  pub other_counted : (f : Finding) → (fields_of f).kind ≢ 0 → reported (Ok f ∷ rest) ≡ 1 + reported rest
  unfolding reported
  other_counted f e = ap (λ (none : Bool). cond none 0 1 + reported rest) (ne_eqb (fields_of f).kind 0 e)
