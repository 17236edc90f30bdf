-- The answers to a whole list of given events meet the one claim over it, and no other answers do.
use Rattle.std.specs.Prelude.{Ok, Err}
use mathlib.Core.Path.{◌≡◌, refl, sym, ap, ap₂, ◌∙◌}
use mathlib.Core.Bool.{Bool, true, false, cond}
use mathlib.Core.List.{List, [], ◌∷◌, map}
use Prim.Native.Nat.{ℕ, suc, ◌<◌}
use native.Mathlib.Decide.{ℕ_discrete as dec_eq}
use lib.ListN.{length}
use borrow.Author.Tests.{ltb-true}
use Rattle.event.specs.declared.Record.{Record}
use Rattle.event.specs.declared.Finding.{Finding}
use Rattle.event.specs.declared.Refusal.{Refusal}
use Rattle.event.specs.Answers.{Check}
use Rattle.event.specs.Numbers.{number_of}
use Rattle.event.specs.Reply.{Reply, finding_values, answer_reply}
use Rattle.window.specs.Window.{window_bytes}
use Rattle.ranges.specs.Ranges.{is_past, ranges_of, any_range}
use Rattle.event.proofs.Bools.{contradiction, fails, and_right}
use Rattle.history.specs.History.{History, is, stores, covers_byte, stores_byte}
use Rattle.history.specs.View.{of_history}
use Rattle.history.specs.Refused.{Limit, limits_by, First, NoneBroken, first_broken, refusal_by}
use Rattle.history.specs.Found.{finding_by}
use Rattle.history.specs.Given.{answer_for, answer_of, after, answers, window_of, RefusedBy, Accepted, ClaimRun}
use Rattle.history.proofs.History.{is_newest, is_older}
use Rattle.history.proofs.Window.{covers_inside}
use Rattle.history.proofs.Claim.{Inside, finding_claim}
use Rattle.history.proofs.Unique.{one_finding}
use Rattle.history.proofs.Meaning.Refusals.{Applies, any_range_lem, accepted_none}

-- what the check of limits says: the first number that applies, or that none does
pub data Checked (limits : List Limit) : Check → Type 0 where
  none : NoneBroken limits → Checked limits (Ok tt)
  first : {x : Refusal} → First limits x → Checked limits (Err x)

pub checked : (limits : List Limit) → Checked limits (first_broken limits)
checked [] = Checked.none NoneBroken.nil
checked (x ∷ xs) = go x.broken refl (first_broken xs) (checked xs)
  where
    go : (b : Bool) → x.broken ≡ b → (c : Check) → Checked xs c → Checked (x ∷ xs) (cond b (Err x.number) c)
    go true e c k = Checked.first (First.here e)
    go false e (Ok _) (Checked.none k) = Checked.none (NoneBroken.cons e k)
    go false e (Err y) (Checked.first k) = Checked.first (First.later e k)

-- so the answer to an event is the number that applies first, or its finding
pub first_broken_lem : {limits : List Limit} {x : Refusal} → First limits x → first_broken limits ≡ Err x
first_broken_lem (First.here e) = rw e
first_broken_lem (First.later e k) = rw e (first_broken_lem k)

pub none_broken : {limits : List Limit} → NoneBroken limits → first_broken limits ≡ Ok tt
none_broken NoneBroken.nil = refl
none_broken (NoneBroken.cons e k) = rw e (none_broken k)

pub answer_refused : (lines : ℕ) (h : History) (r : Record) {x : Refusal} → RefusedBy lines h r x → answer_of lines h r ≡ Err x
unfolding answer_of refusal_by
answer_refused lines h r k = ap (λ (c : Check). answer_for c (finding_by (of_history lines h) r.event)) (first_broken_lem k)

pub answer_found : (lines : ℕ) (h : History) (r : Record) → Accepted lines h r → answer_of lines h r ≡ Ok (finding_by (of_history lines h) r.event)
unfolding answer_of refusal_by
answer_found lines h r k = ap (λ (c : Check). answer_for c (finding_by (of_history lines h) r.event)) (none_broken k)

-- one number applies first, and not beside none
pub one_number : {limits : List Limit} {x y : Refusal} → First limits x → First limits y → x ≡ y
one_number (First.here a) (First.here b) = refl
one_number (First.here a) (First.later b c) = absurd (contradiction a b)
one_number (First.later b c) (First.here a) = absurd (contradiction a b)
one_number (First.later a b) (First.later c d) = one_number b d

pub not_both : {limits : List Limit} {x : Refusal} → First limits x → NoneBroken limits → ⊥
not_both (First.here a) (NoneBroken.cons b c) = contradiction a b
not_both (First.later a b) (NoneBroken.cons c d) = not_both b d

-- what no number refuses lies in the window
within : (lines : ℕ) (h : History) (r : Record) → Accepted lines h r → any_range (is_past lines) (ranges_of r.event) ≡ false
within lines h r k = fails _ (λ e. let a = any_range_lem (is_past lines) (ranges_of r.event) e in accepted_none lines h r k (Applies.past_window a.1 (ltb-true _ _ a.2)))

pub inside_empty : (lines : ℕ) → Inside lines []
unfolding is
inside_empty lines s b t = absurd (contradiction t refl)

pub inside_taken : (lines : ℕ) (h : History) (r : Record) → Inside lines h → Accepted lines h r → Inside lines (r ∷ h)
inside_taken lines h r inside k s b t = go (dec_eq s (suc (length h)))
  where
    go : Dec (s ≡ suc (length h)) → b < window_bytes lines
    go (yes e) = covers_inside lines b (ranges_of r.event) (within lines h r k) (and_right (stores r.event) (covers_byte b r.event) (sym (is_newest (stores_byte b) r h) ∙ (rw e at t)))
    go (no e) = inside s b (sym (is_older (stores_byte b) r h s e) ∙ t)

-- the claim over the whole list, from any history whose stores lie in the window
claim_from : (lines : ℕ) (h : History) (given : List Record) → Inside lines h → ClaimRun lines h given (map answer_reply (answers lines h given))
unfolding answers answer_of refusal_by
claim_from lines h [] inside = ClaimRun.done
claim_from lines h (r ∷ given) inside =
    go (first_broken (limits_by (of_history lines h) r.event)) (checked (limits_by (of_history lines h) r.event))
    (λ i. claim_from lines h given i) (λ i. claim_from lines (r ∷ h) given i)
  where
    f : Finding
    f = finding_by (of_history lines h) r.event

    go : (c : Check) → Checked (limits_by (of_history lines h) r.event) c →
        (Inside lines h → ClaimRun lines h given (map answer_reply (answers lines h given))) →
        (Inside lines (r ∷ h) → ClaimRun lines (r ∷ h) given (map answer_reply (answers lines (r ∷ h) given))) →
        ClaimRun lines h (r ∷ given) (map answer_reply (answer_for c f ∷ answers lines (after (answer_for c f) r h) given))
    go (Ok _) (Checked.none k) refused taken = ClaimRun.takes f k (finding_claim lines h inside r) (taken (inside_taken lines h r inside k))
    go (Err x) (Checked.first k) refused taken = ClaimRun.refuses k (refused inside)

-- the answers to every list of given events, from the run of every asked line count, meet the claim
pub whole_claim : (asked : ℕ) (given : List Record) → ClaimRun (window_of asked) [] given (map answer_reply (answers (window_of asked) [] given))
whole_claim asked given = claim_from (window_of asked) [] given (inside_empty (window_of asked))

-- and no other answers do
pub one_run : {lines : ℕ} {h : History} {given : List Record} {xs ys : List Reply} → ClaimRun lines h given xs → ClaimRun lines h given ys → xs ≡ ys
one_run ClaimRun.done ClaimRun.done = refl
one_run (ClaimRun.refuses a b) (ClaimRun.refuses c d) = ap₂ (λ (x : Refusal) (xs : List Reply). Reply.refused (number_of x) 0 ∷ xs) (one_number a c) (one_run b d)
one_run (ClaimRun.refuses a b) (ClaimRun.takes f c d e) = absurd (not_both a c)
one_run (ClaimRun.takes f c d e) (ClaimRun.refuses a b) = absurd (not_both a c)
one_run (ClaimRun.takes {h = h} {r = r} f a b c) (ClaimRun.takes g d e k) = ap₂ (λ (f : Finding) (xs : List Reply). Reply.values (finding_values f) ∷ xs) (one_finding h r b e) (one_run c k)
