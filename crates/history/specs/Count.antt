-- Event numbers from 1 to m that pass a test: how many, the last, the first after a given one. 0 stands for none.
use Rattle.std.specs.Prelude.{Bool, cond, ◌&&◌, ℕ, zero, suc, ltb}

-- how many of 1 to m pass
unfoldable pub count : (ℕ → Bool) → ℕ → ℕ
count p zero = 0
count p (suc m) = cond (p (suc m)) (suc (count p m)) (count p m)

-- the last of 1 to m that passes
unfoldable pub last : (ℕ → Bool) → ℕ → ℕ
last p zero = 0
last p (suc m) = cond (p (suc m)) (suc m) (last p m)

-- the number itself, or the other one where it is 0
abbrev pub or_else : ℕ → ℕ → ℕ
or_else zero y = y
or_else (suc x) y = suc x

-- the first after s, and at most m, that passes
unfoldable pub first : (ℕ → Bool) → ℕ → ℕ → ℕ
first p s zero = 0
first p s (suc m) = or_else (first p s m) (cond (ltb s (suc m) && p (suc m)) (suc m) 0)

-- the value at a number, or the other one where the number is 0
abbrev pub if_some : {A : Type 0} → ℕ → A → (ℕ → A) → A
if_some zero other f = other
if_some (suc n) other f = f (suc n)
