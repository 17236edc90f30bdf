-- Answers that are equal hold equal values.
use Rattle.std.specs.Prelude.{◌≡◌, Result, Ok, Err}

pub same_value : {T E : Type 0} {x y : T} → ◌≡◌ {A = Result T E} (Ok x) (Ok y) → x ≡ y
same_value k = cc

pub same_refusal : {T E : Type 0} {x y : E} → ◌≡◌ {A = Result T E} (Err x) (Err y) → x ≡ y
same_refusal k = cc

-- a refusal is no value
pub not_refused : {T E : Type 0} {x : T} {y : E} → ◌≡◌ {A = Result T E} (Ok x) (Err y) → ⊥
not_refused k = cc
