-- Request 5 holds: ranges of no bytes.
use mathlib.Core.Path.{◌≡◌, ap, ◌∙◌}
use mathlib.Core.Bool.{false}
use mathlib.Core.Logic.{◌≢◌, ◌⊎◌, inl, inr}
use mathlib.Core.List.{List}
use Prim.Native.Nat.{ℕ}
use native.Mathlib.Omega.{arith}
use Rattle.event.specs.declared.Record.{Record}
use Rattle.event.specs.declared.Finding.{Finding}
use Rattle.event.specs.declared.Refusal.{Refusal}
use Rattle.event.specs.Numbers.{number_of}
use Rattle.event.specs.Reply.{Reply, answer_reply, finding_values}
use Rattle.event.proofs.Bools.{contradiction}
use Rattle.event.proofs.Meaning.{no_eight_lem}
use Rattle.ranges.specs.Ranges.{is_past, ranges_of, any_range}
use Rattle.ranges.proofs.Meaning.{empty_covers, empty_touches}
use Rattle.history.specs.History.{History}
use Rattle.history.specs.Refused.{First}
use Rattle.history.specs.Claim.{Claim}
use Rattle.history.specs.Given.{window_of, RefusedBy, Accepted}
use Rattle.history.proofs.Claim.{finding_claim}
use Rattle.history.proofs.Meaning.NoBytes.{up_to_the_size_lem, beyond_the_size_lem, persisted_empty, ordered_empty, only_empty_stores, not_empty_lem}
use Rattle.events.specs.Give.{give_of}
use Rattle.events.proofs.NoBytes.{nothing_else_lem}
use Rattle.engine.specs.Reply.{given_reply}
use Rattle.claims.specs.After.{run_from, taken_from}
use Rattle.claims.specs.EmptyRanges.{EmptyRanges}
use Rattle.claims.proofs.Answers.{inside, decided, refused, taken, not_refused}

-- where no range runs past the window, the number is not 9
not_nine : (lines : ℕ) (h : History) (r : Record) {x : Refusal} → any_range (is_past lines) (ranges_of r.event) ≡ false → RefusedBy lines h r x →
    number_of x ≢ 9
not_nine lines h r k (First.here t) e = contradiction t k
not_nine lines h r k (First.later a (First.here t)) e = omega (arith, e)
not_nine lines h r k (First.later a (First.later b (First.here t))) e = omega (arith, e)
not_nine lines h r k (First.later a (First.later b (First.later c (First.here t)))) e = omega (arith, e)
not_nine lines h r k (First.later a (First.later b (First.later c (First.later d (First.here t))))) e = omega (arith, e)
not_nine lines h r k (First.later a (First.later b (First.later c (First.later d (First.later t none))))) e = elim none [ ]

module _ (asked : ℕ) (given : List Record) (r : Record) where
  not_past : (at : ℕ) → any_range (is_past (window_of asked)) (ranges_of r.event) ≡ false → given_reply (give_of (run_from asked given) r) ≢ Reply.refused 9 at
  not_past at k e = go (decided asked given r)
    where
      go : ((x : Refusal) × RefusedBy (window_of asked) (taken_from asked given) r x) ⊎ Accepted (window_of asked) (taken_from asked given) r → ⊥
      go (inl (x, f)) = let nine : number_of x ≡ 9 = cc (ap given_reply (refused asked given r f)) in not_nine (window_of asked) (taken_from asked given) r k f nine
      go (inr f) = not_refused (ap answer_reply (taken asked given r f)) e

  -- what an accepted event gets, where its claim admits only this finding
  found : {f : Finding} → Accepted (window_of asked) (taken_from asked given) r → ((g : Finding) → Claim (taken_from asked given) r g → g ≡ f) →
      given_reply (give_of (run_from asked given) r) ≡ Reply.values (finding_values f)
  found k only =
      ap answer_reply (taken asked given r k) ∙
      ap (λ (f : Finding). Reply.values (finding_values f)) (only _ (finding_claim (window_of asked) (taken_from asked given) (inside asked given) r))

pub empty_ranges : EmptyRanges
empty_ranges =
    record {
      no_byte = empty_covers;
      no_line = empty_touches;
      up_to_the_size = λ asked given r at k. not_past asked given r at (up_to_the_size_lem (window_of asked) r.event k);
      beyond_the_size = λ asked given r m z k. ap given_reply (refused asked given r (beyond_the_size_lem (window_of asked) (taken_from asked given) r m z k));
      nothing_else = nothing_else_lem;
      ends = λ asked given r k e d only. found asked given r k (λ f claim. only_empty_stores (taken_from asked given) r claim e d only);
      not_empty = not_empty_lem;
      persisted = λ asked given r k e z. found asked given r k (λ f claim. persisted_empty (taken_from asked given) r claim e z);
      ordered = λ asked given r k e z. found asked given r k (λ f claim. ordered_empty (taken_from asked given) r claim e z);
      no_eight = no_eight_lem;
    }
