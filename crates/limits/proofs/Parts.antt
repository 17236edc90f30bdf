-- Limits checked part by part: the first part that refuses decides.
use Rattle.std.specs.Prelude.{Ok, Err}
use mathlib.Core.Path.{◌≡◌, refl, sym, ap, ◌∙◌}
use mathlib.Core.Bool.{Bool, true, false, cond}
use mathlib.Core.List.{List, [], ◌∷◌, ◌++◌}
use Rattle.event.specs.declared.Refusal.{Refusal}
use Rattle.event.specs.Answers.{Check}
use Rattle.history.specs.Refused.{Limit, NoneBroken, first_broken}

-- the first part decides where it refuses, and else the rest does
abbrev either : Check → Check → Check
either (Ok _) c = c
either (Err x) c = Err x

in_parts : (part rest : List Limit) → first_broken (part ++ rest) ≡ either (first_broken part) (first_broken rest)
in_parts [] rest = refl
in_parts (x ∷ part) rest = go x.broken (in_parts part rest)
  where
    go : (b : Bool) → first_broken (part ++ rest) ≡ either (first_broken part) (first_broken rest) →
        cond b (Err x.number) (first_broken (part ++ rest)) ≡ either (cond b (Err x.number) (first_broken part)) (first_broken rest)
    go true e = refl
    go false e = e

module _ (part rest : List Limit) where
  pub part_refused : {x : Refusal} → first_broken part ≡ Err x → Err x ≡ first_broken (part ++ rest)
  part_refused e = sym (in_parts part rest ∙ ap (λ (c : Check). either c (first_broken rest)) e)

  pub part_passed : {c : Check} → first_broken part ≡ (Ok tt) → c ≡ first_broken rest → c ≡ first_broken (part ++ rest)
  part_passed e f = f ∙ sym (in_parts part rest ∙ ap (λ (c : Check). either c (first_broken rest)) e)

-- where nothing is broken in the whole, nothing is in a part
pub none_first : (part rest : List Limit) → NoneBroken (part ++ rest) → NoneBroken part
none_first [] rest k = NoneBroken.nil
none_first (x ∷ part) rest (NoneBroken.cons e k) = NoneBroken.cons e (none_first part rest k)

pub none_rest : (part rest : List Limit) → NoneBroken (part ++ rest) → NoneBroken rest
none_rest [] rest k = k
none_rest (x ∷ part) rest (NoneBroken.cons e k) = none_rest part rest k
