-- The accepted part of the events given, in plain words.
use Rattle.std.specs.Prelude.{Ok, Err}
use mathlib.Core.Path.{◌≡◌, ap}
use mathlib.Core.List.{List, [], ◌∷◌}
use Prim.Native.Nat.{ℕ, ◌≤◌}
use native.Mathlib.Omega.{arith}
use lib.ListN.{length}
use borrow.Author.Tests.{leb-false}
use Rattle.event.specs.declared.Record.{Record}
use Rattle.event.specs.declared.Refusal.{Refusal}
use Rattle.event.specs.Answers.{Answer, Check}
use Rattle.history.specs.History.{History}
use Rattle.history.specs.View.{of_history}
use Rattle.history.specs.Refused.{limits_by, NoneBroken, first_broken}
use Rattle.history.specs.Given.{accepted, after, RefusedBy, Accepted}
use Rattle.history.proofs.Given.{Checked, checked, answer_refused, answer_found}

-- the accepted part leaves out exactly what is refused: a refused event changes nothing, and any other is added
pub leaves_out : (lines : ℕ) (h : History) (r : Record) (given : List Record) {x : Refusal} → RefusedBy lines h r x → accepted lines h (r ∷ given) ≡ accepted lines h given
unfolding accepted
leaves_out lines h r given k = ap (λ (a : Answer). accepted lines (after a r h) given) (answer_refused lines h r k)

pub takes_in : (lines : ℕ) (h : History) (r : Record) (given : List Record) → Accepted lines h r → accepted lines h (r ∷ given) ≡ accepted lines (r ∷ h) given
unfolding accepted
takes_in lines h r given k = ap (λ (a : Answer). accepted lines (after a r h) given) (answer_found lines h r k)

-- a list each of whose events no number refuses where it stands
pub data Taken (lines : ℕ) : History → Type 0 where
  start : Taken lines []
  taken : {h : History} {r : Record} → Taken lines h → Accepted lines h r → Taken lines (r ∷ h)

-- the accepted part is such a list
pub accepted_taken : (lines : ℕ) (h : History) (given : List Record) → Taken lines h → Taken lines (accepted lines h given)
unfolding accepted
accepted_taken lines h [] t = t
accepted_taken lines h (r ∷ given) t = go (first_broken (limits_by (of_history lines h) r.event)) (checked (limits_by (of_history lines h) r.event))
    (accepted_taken lines h given t) (λ k. accepted_taken lines (r ∷ h) given k)
  where
    go : (c : Check) → Checked (limits_by (of_history lines h) r.event) c → Taken lines (accepted lines h given) →
        (Taken lines (r ∷ h) → Taken lines (accepted lines (r ∷ h) given)) → Taken lines (accepted lines h (r ∷ given))
    go (Ok _) (Checked.none k) refused added = rw (takes_in lines h r given k) (added (Taken.taken t k))
    go (Err x) (Checked.first k) refused added = rw (leaves_out lines h r given k) refused

-- such a list has at most 65,535 events
pub taken_events : {lines : ℕ} {h : History} → Taken lines h → length h ≤ 65535
taken_events Taken.start = omega arith
taken_events (Taken.taken {h = h} t (NoneBroken.cons a (NoneBroken.cons s (NoneBroken.cons b c)))) = omega (arith, leb-false 65535 (length h) b)
