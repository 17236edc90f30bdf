-- Transactions: how many are open, where the outermost began, and what has happened since.
use Rattle.std.specs.Prelude.{◌≡◌, Bool, true, cond, ◌&&◌, [], ◌∷◌, ℕ, suc, pred, ◌<◌, eqb, length}
use Rattle.event.specs.declared.Event.{Event}
use Rattle.history.specs.History.{History, is, begins, ends}

-- a begin opens one more, an end closes one
abbrev pub depth_after : Event → ℕ → ℕ
depth_after e d = cond (begins e) (suc d) (cond (ends e) (pred d) d)

-- transactions open
unfoldable pub depth : History → ℕ
depth [] = 0
depth (r ∷ h) = depth_after r.event (depth h)

-- the latest outermost begin: a begin at depth 0
unfoldable pub outermost : History → ℕ
outermost [] = 0
outermost (r ∷ h) = cond (begins r.event && eqb (depth h) 0) (suc (length h)) (outermost h)

-- an event since then passes the test
pub record Since (h : History) (p : Event → Bool) : Type 0 where
  pub number : ℕ
  pub later : outermost h < number
  pub passes : is p h number ≡ true
