-- Records given to a run without the tables that only a byte's answer goes by are checked alike, leave the same findings, and lead to the
-- same run without them.
use Rattle.std.specs.Prelude.{Ok, Err}
use mathlib.Core.Path.{◌≡◌, refl, ap}
use mathlib.Core.List.{List, [], ◌∷◌}
use Prim.Native.Nat.{ℕ, suc, ◌+◌}
use Rattle.event.specs.Answers.{Answer, Parsed}
use Rattle.codec.specs.Codec.{finding_size}
use Rattle.events.specs.Give.{Given}
use Rattle.events.specs.Give.{bare}
use Rattle.events.proofs.Bare.{give_bare}
use Rattle.record_step.specs.Step.{Stage, stage, placed_for, record_answer, record_given}
use Rattle.pass.specs.Pass.{Passed, result, after_answer, records_judged}

-- where they lead without those tables
abbrev bare_of : Stage → Stage
bare_of s = stage (bare s.run) s.buffer

abbrev pub bare_passed : Passed → Passed
bare_passed e = result e.check (bare_of e.stage)

-- one record
same_answer : (p : Parsed) (s : Stage) → record_answer p (bare_of s) ≡ record_answer p s
same_answer (Ok r) s = ap (λ (g : Given). g.answer) (give_bare s.run r)
same_answer (Err x) s = refl

same_given : (p : Parsed) (at : ℕ) (s : Stage) → record_given p at (bare_of s) ≡ bare_of (record_given p at s)
same_given (Ok r) at s = ap (λ (g : Given). stage g.run (placed_for g.answer r.site at s.buffer)) (give_bare s.run r)
same_given (Err x) at s = refl

-- one record that got this answer, and where the others lead
same_after : (a : Answer) (n : ℕ) (s : Stage) (others bare-others : Passed) → bare-others ≡ bare_passed others →
    after_answer a n (bare_of s) bare-others ≡ bare_passed (after_answer a n s others)
same_after (Err x) n s others bare-others e = refl
same_after (Ok f) n s others bare-others e = e

-- so a record, where the others lead alike
same_more : (p : Parsed) (n at : ℕ) (s : Stage) (rest : Stage → Passed) → ((s : Stage) → rest (bare_of s) ≡ bare_passed (rest s)) →
    after_answer (record_answer p (bare_of s)) n (record_given p at (bare_of s)) (rest (record_given p at (bare_of s))) ≡
    bare_passed (after_answer (record_answer p s) n (record_given p at s) (rest (record_given p at s)))
same_more p n at s rest e =
    rw (same_answer p s, same_given p at s) (same_after (record_answer p s) n (record_given p at s) (rest (record_given p at s)) (rest (bare_of (record_given p at s))) (e (record_given p at s)))

-- all of them, by induction
pub bare_judged : (records : List Parsed) (n at : ℕ) (s : Stage) → records_judged records n at (bare_of s) ≡ bare_passed (records_judged records n at s)
unfolding records_judged
bare_judged [] n at s = refl
bare_judged (p ∷ rest) n at s =
    same_more p n at s (records_judged rest (suc n) (at + finding_size)) (λ next. bare_judged rest (suc n) (at + finding_size) next)
