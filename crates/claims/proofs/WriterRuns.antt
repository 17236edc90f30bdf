-- The answers to any calls on a writer meet the claim over the whole list, and no others do.
use Rattle.std.specs.Prelude.{Ok, Err}
use mathlib.Core.Path.{◌≡◌, refl, sym, ap, ap₂, subst, ◌∙◌}
use mathlib.Core.List.{List, [], ◌∷◌}
use Prim.Native.Nat.{ℕ}
use lib.ListN.{length}
use Rattle.event.specs.declared.Refusal.{Refusal}
use Rattle.event.specs.Answers.{Check}
use Rattle.event.specs.Numbers.{number_of}
use Rattle.event.specs.Reply.{Reply}
use Rattle.codec.specs.Placed.{laid}
use Rattle.history.specs.History.{History}
use Rattle.history.specs.Refused.{first_broken}
use Rattle.history.proofs.Given.{Checked, checked, one_number, not_both}
use Rattle.claims.specs.Writing.{WriterCall, Writing, writing, call_reply, writing_next, writing_after, call_replies, place_after, call_limits, call_values, history_after, unless_refused, written_by, WriterRun}
use Rattle.claims.proofs.Writing.{Holds, writer_for, stays, lays}

module _ (room : ℕ) (preamble : List ℕ) (lines : ℕ) where
  abbrev free : ℕ
  free = length preamble

  -- where calls lead to from an area that holds the events of h, and what they answer
  pub record LeadsTo (h : History) (area : List ℕ) (calls : List WriterCall) : Type 0 where
    pub left : List ℕ
    pub after : writing_after (writing area (writer_for room preamble lines h)) calls ≡
        writing left (writer_for room preamble lines (written_by room free lines h calls))
    pub holds : Holds room preamble lines (written_by room free lines h calls) left
    pub run : WriterRun room free lines h calls (call_replies (writing area (writer_for room preamble lines h)) calls)

  -- one call, and then the others
  module _ (h : History) (area : List ℕ) (k : Holds room preamble lines h area) (calls : List WriterCall) where
    abbrev from : Writing
    from = writing area (writer_for room preamble lines h)

    -- a call c that answers a and leaves the area so that it holds the events of g
    led : (c : WriterCall) (g : History) (next : List ℕ) (a : Reply) → call_reply from c ≡ a →
        writing_next from c ≡ writing next (writer_for room preamble lines g) → written_by room free lines h (c ∷ calls) ≡ written_by room free lines g calls →
        ((rest : List Reply) → WriterRun room free lines g calls rest → WriterRun room free lines h (c ∷ calls) (a ∷ rest)) →
        LeadsTo g next calls → LeadsTo h area (c ∷ calls)
    unfolding writing_after call_replies
    led c g next a answer leaves written joins o =
        record {
          left = o.left;
          after = ap (λ (f : Writing). writing_after f calls) leaves ∙ o.after ∙ ap (λ (t : History). writing o.left (writer_for room preamble lines t)) (sym written);
          holds = subst (λ (t : History). Holds room preamble lines t o.left) (sym written) o.holds;
          run =
              subst (WriterRun room free lines h (c ∷ calls))
              (ap₂ (λ (b : Reply) (f : Writing). b ∷ call_replies f calls) (sym answer) (sym leaves))
              (joins (call_replies (writing next (writer_for room preamble lines g)) calls) o.run);
        }

    step : (c : WriterCall) → ((g : History) (next : List ℕ) → Holds room preamble lines g next → LeadsTo g next calls) → (d : Check) →
        first_broken (call_limits room free lines h c) ≡ d → Checked (call_limits room free lines h c) d → LeadsTo h area (c ∷ calls)
    unfolding written_by
    step c go (Ok _) p (Checked.none n) =
        let l = lays room preamble lines h area k c n in
        led c (history_after c h) (laid (place_after free h) l.bytes area) (Reply.values (call_values free h c)) l.answer l.left
        (ap (λ (d : Check). written_by room free lines (unless_refused d (history_after c h) h) calls) p)
        (λ rest run. WriterRun.takes n run)
        (go (history_after c h) (laid (place_after free h) l.bytes area) l.holds)
    step c go (Err x) p (Checked.first n) =
        let s = stays room preamble lines h area k c n in
        led c h area (Reply.refused (number_of x) 0) s.answer s.left
        (ap (λ (d : Check). written_by room free lines (unless_refused d (history_after c h) h) calls) p)
        (λ rest run. WriterRun.refuses n run)
        (go h area k)

  -- any calls
  pub leads : (h : History) (area : List ℕ) → Holds room preamble lines h area → (calls : List WriterCall) → LeadsTo h area calls
  unfolding writing_after call_replies written_by
  leads h area k [] = record { left = area; after = refl; holds = k; run = WriterRun.done }
  leads h area k (c ∷ calls) =
      step h area k calls c (λ g next l. leads g next l calls) (first_broken (call_limits room free lines h c)) refl (checked (call_limits room free lines h c))

-- no two lists of answers meet the claim
pub one_writer_run : {room free lines : ℕ} {h : History} {calls : List WriterCall} {a b : List Reply} →
    WriterRun room free lines h calls a → WriterRun room free lines h calls b → a ≡ b
one_writer_run WriterRun.done WriterRun.done = refl
one_writer_run (WriterRun.refuses m j) (WriterRun.refuses n k) =
    ap₂ (λ (x : Refusal) (rest : List Reply). Reply.refused (number_of x) 0 ∷ rest) (one_number m n) (one_writer_run j k)
one_writer_run (WriterRun.refuses m j) (WriterRun.takes n k) = absurd (not_both m n)
one_writer_run (WriterRun.takes m j) (WriterRun.refuses n k) = absurd (not_both n m)
one_writer_run {free = free} (WriterRun.takes {h = h} {c = c} m j) (WriterRun.takes n k) =
    ap (λ (rest : List Reply). Reply.values (call_values free h c) ∷ rest) (one_writer_run j k)
