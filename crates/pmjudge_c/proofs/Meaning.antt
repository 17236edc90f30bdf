-- What stands at each place of an answer.
use mathlib.Core.Path.{◌≡◌, refl}
use mathlib.Core.List.{[], ◌∷◌}
use Prim.Native.Nat.{ℕ}
use Rattle.event.specs.declared.NamedInterval.TheVariants.{None, Open, Closed}
use Rattle.event.specs.declared.Refusal.{Refusal}
use Rattle.event.specs.Numbers.{number_of}
use Rattle.event.specs.Reply.{Reply}
use Rattle.trace_interval.specs.declared.Sites.{Sites}
use Rattle.trace_interval.specs.TraceInterval.{trace_interval_reply}
use Rattle.pmjudge_c.specs.Answer.{five_numbers, three_numbers}
use Rattle.pmjudge_c.specs.Interval.{eleven_numbers}
use Rattle.pmjudge_c.specs.Writer.{two_numbers}
use Rattle.event.specs.Answers.{refused_at}
use Rattle.trace_interval.specs.Answers.{sited}

-- a refusal has its number, and the number of its record or the position of its finding
refused_five : (number at : ℕ) → five_numbers (Reply.refused number at) ≡ number ∷ at ∷ 0 ∷ 0 ∷ 0 ∷ []
refused_five number at = refl

refused_three : (number at : ℕ) → three_numbers (Reply.refused number at) ≡ number ∷ at ∷ 0 ∷ []
refused_three number at = refl

refused_two : (number at : ℕ) → two_numbers (Reply.refused number at) ≡ number ∷ 0 ∷ []
refused_two number at = refl

-- values stand behind two zeros; of a writer, behind one
values_five : (a b c : ℕ) → five_numbers (Reply.values (a ∷ b ∷ c ∷ [])) ≡ 0 ∷ 0 ∷ a ∷ b ∷ c ∷ []
values_five a b c = refl

values_three : (length : ℕ) → three_numbers (Reply.values (length ∷ [])) ≡ 0 ∷ 0 ∷ length ∷ []
values_three length = refl

values_two : (length : ℕ) → two_numbers (Reply.values (length ∷ [])) ≡ 0 ∷ length ∷ []
values_two length = refl

-- the answer to a byte asked
refused_interval : (x : Refusal) (n : ℕ) → eleven_numbers (trace_interval_reply (refused_at x n)) ≡ number_of x ∷ n ∷ 0 ∷ 0 ∷ 0 ∷ 0 ∷ 0 ∷ 0 ∷ 0 ∷ 0 ∷ 0 ∷ []
refused_interval x n = refl

module _ (s : Sites) where
  no_interval : eleven_numbers (trace_interval_reply (sited None s)) ≡ 0 ∷ 0 ∷ 0 ∷ 0 ∷ 0 ∷ 0 ∷ 0 ∷ 0 ∷ 0 ∷ 0 ∷ 0 ∷ []
  no_interval = refl

  open_interval : (opened store back : ℕ) →
      eleven_numbers (trace_interval_reply (sited (Open opened store back) s)) ≡ 0 ∷ 0 ∷ 1 ∷ opened ∷ 0 ∷ store ∷ back ∷ 0 ∷ s.store ∷ s.back ∷ 0 ∷ []
  open_interval opened store back = refl

  closed_interval : (opened closed store back fence : ℕ) →
      eleven_numbers (trace_interval_reply (sited (Closed opened closed store back fence) s)) ≡
      0 ∷ 0 ∷ 2 ∷ opened ∷ closed ∷ store ∷ back ∷ fence ∷ s.store ∷ s.back ∷ s.fence ∷ []
  closed_interval opened closed store back fence = refl
