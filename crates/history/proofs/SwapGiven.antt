-- Neighbours given in either order: the answers to the whole list, the accepted events and the count of findings.
use Rattle.std.specs.Prelude.{Ok, Err}
use mathlib.Core.Path.{◌≡◌, refl, sym, ap, ap₂, ◌∙◌, subst}
use mathlib.Core.Bool.{Bool, false, cond, ◌&&◌}
use mathlib.Core.List.{List, [], ◌∷◌, ◌++◌, map}
use Prim.Native.Nat.{ℕ, suc, ◌+◌}
use native.Mathlib.Omega.{arith}
use lib.Dec.{eqb, leb}
use lib.ListN.{length, drop}
use Rattle.event.specs.declared.Record.{Record}
use Rattle.event.specs.declared.Finding.{Finding}
use Rattle.event.specs.declared.Finding.TheVariants.{None, Holds, Lost, OutOfOrder, Unlogged, Clean, WrittenTwice, LoggedTwice, Empty}
use Rattle.event.specs.declared.Refusal.{Refusal}
use Rattle.event.specs.Answers.{Answer}
use Rattle.event.specs.Numbers.{is_none}
use Rattle.history.specs.History.{History, begins}
use Rattle.history.specs.Transaction.{depth}
use Rattle.history.specs.View.{of_history}
use Rattle.history.specs.Refused.{Limit, most_depth, asks_open, limits_by, First, NoneBroken}
use Rattle.history.specs.Found.{finding_by}
use Rattle.history.specs.Given.{answer_of, after, accepted, answers, Accepted, RefusedBy, counts, reported}
use Rattle.history.specs.Swap.{MaySwap, AllRefused, Neighbours, in_turn, exchanged, renamed, renamed_answer}
use Rattle.history.proofs.Given.{answer_refused, answer_found}
use Rattle.history.proofs.Meaning.Accepted.{leaves_out, takes_in}
use Rattle.history.proofs.Swap.{Quiet, quiet, Swapped}
use Rattle.history.proofs.SwapSince.{may_flip}
use Rattle.history.proofs.SwapFinding.{limits_same, answer_moved, quiet_depth, own_finding}

-- events given after others: the answers follow theirs, and so does the accepted part
pub answers_append : (lines : ℕ) (h : History) (before given : List Record) →
    answers lines h (before ++ given) ≡ answers lines h before ++ answers lines (accepted lines h before) given
unfolding answers accepted
answers_append lines h [] given = refl
answers_append lines h (r ∷ before) given =
    ap (λ (l : List Answer). answer_of lines h r ∷ l) (answers_append lines (after (answer_of lines h r) r h) before given)

pub accepted_append : (lines : ℕ) (h : History) (before given : List Record) → accepted lines h (before ++ given) ≡ accepted lines (accepted lines h before) given
unfolding accepted
accepted_append lines h [] given = refl
accepted_append lines h (r ∷ before) given = accepted_append lines (after (answer_of lines h r) r h) before given

-- refused events leave the history as it was
all_refused : {lines : ℕ} {h : History} {given : List Record} → AllRefused lines h given → accepted lines h given ≡ h
unfolding accepted
all_refused AllRefused.nil = refl
all_refused {lines} {h} (AllRefused.cons {r = r} {rest = rest} k others) = leaves_out lines h r rest k ∙ all_refused others

-- and are refused by the same numbers after another history of the same length and depth
module _ (lines : ℕ) (h k : History) (long : length k ≡ length h) (deep : depth k ≡ depth h) where
  refused_same : (r : Record) {x : Refusal} → RefusedBy lines h r x → RefusedBy lines k r x
  refused_same r {x} = subst (λ (limits : List Limit). First limits x) (sym (limits_same lines h k long deep r.event))

  still_refused : {given : List Record} → AllRefused lines h given → AllRefused lines k given
  still_refused AllRefused.nil = AllRefused.nil
  still_refused (AllRefused.cons {r = r} n others) = AllRefused.cons (refused_same r n) (still_refused others)

  refusals_same : {given : List Record} → AllRefused lines h given → answers lines k given ≡ answers lines h given
  unfolding answers
  refusals_same AllRefused.nil = refl
  refusals_same (AllRefused.cons {r = r} {x = x} n others) =
      rw (answer_refused lines h r n, answer_refused lines k r (refused_same r n)) (ap (λ (l : List Answer). Err x ∷ l) (refusals_same others))

-- the answers to every list of later events, refused ones among them, and the accepted part
pub record Follows (lines : ℕ) (a b : Record) (older : History) (given : List Record) (h k : History) : Type 0 where
  pub same : answers lines k given ≡ map (renamed_answer (exchanged (suc (length older)))) (answers lines h given)
  pub swapped : Swapped a b older (accepted lines h given) (accepted lines k given)

module _ (lines : ℕ) (a b : Record) (older : History) (m : MaySwap a.event b.event) where
  abbrev ex : ℕ → ℕ
  ex = exchanged (suc (length older))

  follows : (given : List Record) {h k : History} → Swapped a b older h k → Follows lines a b older given h k
  unfolding answers accepted
  follows [] s = record { same = refl; swapped = s }
  follows (r ∷ given) {h} {k} s =
      let x = go (answer_of lines h r) (follows given s) (follows given (Swapped.later r s)) in
      record { same = rw (answer_moved a b older m s lines r) x.0; swapped = rw (answer_moved a b older m s lines r) x.1 }
    where
      go : (f : Answer) → Follows lines a b older given h k → Follows lines a b older given (r ∷ h) (r ∷ k) →
          ((renamed_answer ex f ∷ answers lines (after (renamed_answer ex f) r k) given) ≡ (renamed_answer ex f ∷ map (renamed_answer ex) (answers lines (after f r h) given))) ×
          Swapped a b older (accepted lines (after f r h) given) (accepted lines (after (renamed_answer ex f) r k) given)
      go (Err x) kept taken = (ap (λ (l : List Answer). Err x ∷ l) kept.same, kept.swapped)
      go (Ok f) kept taken = (ap (λ (l : List Answer). Ok (renamed ex f) ∷ l) taken.same, taken.swapped)

-- a store or a write-back breaks no limit on transactions
quietly : (lines : ℕ) (h : History) (r : Record) → Quiet r.event → NoneBroken (drop 3 (limits_by (of_history lines h) r.event))
quietly lines h r q =
    let inside : asks_open r.event && eqb (depth h) 0 ≡ false = rw (q.no_log, q.no_end) in
    let nests : begins r.event && leb most_depth (depth h) ≡ false = rw q.no_begin in
    NoneBroken.cons inside (NoneBroken.cons nests NoneBroken.nil)

-- so both are accepted the other way round
both_accepted : (lines : ℕ) (h : History) (a b : Record) → Quiet a.event → Quiet b.event → Accepted lines h a → Accepted lines (a ∷ h) b →
    Accepted lines h b × Accepted lines (b ∷ h) a
both_accepted lines h a b qa qb
    (NoneBroken.cons pastA (NoneBroken.cons shareA (NoneBroken.cons roomA rest)))
    (NoneBroken.cons pastB (NoneBroken.cons shareB (NoneBroken.cons roomB more))) = (
      NoneBroken.cons pastB (NoneBroken.cons shareB (NoneBroken.cons roomA (quietly lines h b qb))),
      NoneBroken.cons pastA (NoneBroken.cons shareA (NoneBroken.cons roomB (quietly lines (b ∷ h) a qa))),
    )

-- neighbours and all that follows: the answers, and the accepted part
module _ {lines : ℕ} {h : History} {a : Record} {between : List Record} {b : Record} (n : Neighbours lines h a between b) where
  qa : Quiet a.event
  qa = quiet a.event n.may.first

  qb : Quiet b.event
  qb = quiet b.event n.may.second

  same_depth : depth (b ∷ h) ≡ depth (a ∷ h)
  same_depth = quiet_depth lines h b qb ∙ sym (quiet_depth lines h a qa)

  abbrev found_a : Finding
  found_a = finding_by (of_history lines h) a.event

  abbrev found_b : Finding
  found_b = finding_by (of_history lines h) b.event

  pub in_turn_lem : (later : List Record) →
      answers lines h (a ∷ (between ++ (b ∷ later))) ≡ Ok found_a ∷ (answers lines (a ∷ h) between ++ (Ok found_b ∷ answers lines (b ∷ a ∷ h) later))
  unfolding answers
  in_turn_lem later =
      rw (
        answer_found lines h a n.first,
        answers_append lines (a ∷ h) between (b ∷ later),
        all_refused n.refused,
        answer_found lines (a ∷ h) b n.second,
        own_finding lines h a qa b.event n.may.second (λ l u v. n.may.apart l v u),
      )

  taken_in_turn : (later : List Record) → accepted lines h (a ∷ (between ++ (b ∷ later))) ≡ accepted lines (b ∷ a ∷ h) later
  taken_in_turn later =
      takes_in lines h a (between ++ (b ∷ later)) n.first ∙ accepted_append lines (a ∷ h) between (b ∷ later) ∙
      ap (λ (g : History). accepted lines g (b ∷ later)) (all_refused n.refused) ∙ takes_in lines (a ∷ h) b later n.second

  -- the other way round both are accepted too, and what is given between them is refused
  pub other_way : Neighbours lines h b between a
  other_way =
      let both = both_accepted lines h a b qa qb n.first n.second in
      record {
        may = may_flip n.may;
        first = both.0;
        refused = still_refused lines (a ∷ h) (b ∷ h) refl same_depth n.refused;
        second = both.1;
      }

-- how many findings other than none there are
reported_append : (found more : List Answer) → reported (found ++ more) ≡ reported found + reported more
unfolding reported
reported_append [] more = omega arith
reported_append (f ∷ found) more = omega (arith, reported_append found more)

counts_same : (x : ℕ → ℕ) (f : Answer) → counts (renamed_answer x f) ≡ counts f
counts_same x (Err number) = refl
counts_same x (Ok f) = ap (λ (c : Bool). cond c 0 1) (go f)
  where
    go : (f : Finding) → is_none (renamed x f) ≡ is_none f
    go None = refl
    go Holds = refl
    go (Lost lost moment store) = refl
    go (OutOfOrder lost kept moment store) = refl
    go (Unlogged lost) = refl
    go (Clean lost) = refl
    go (WrittenTwice lost) = refl
    go (LoggedTwice lost) = refl
    go Empty = refl

reported_same : (x : ℕ → ℕ) (found : List Answer) → reported (map (renamed_answer x) found) ≡ reported found
unfolding reported
reported_same x [] = refl
reported_same x (f ∷ rest) = ap₂ (λ (n k : ℕ). n + k) (counts_same x f) (reported_same x rest)

reported_in_turn : (before : List Answer) (f : Answer) (between : List Answer) (g : Answer) (later : List Answer) →
    reported (in_turn before f between g later) ≡ reported before + counts f + reported between + counts g + reported later
unfolding reported
reported_in_turn before f between g later =
    omega (arith, reported_append before (f ∷ (between ++ (g ∷ later))), reported_append between (g ∷ later))

-- neighbours after any events, given in either order with any events after them
module _ (lines : ℕ) (before : List Record) {a : Record} {between : List Record} {b : Record}
    (n : Neighbours lines (accepted lines [] before) a between b) (later : List Record) where
  abbrev older : History
  older = accepted lines [] before

  abbrev found : Record → Answer
  found r = Ok (finding_by (of_history lines older) r.event)

  abbrev refusals : List Answer
  refusals = answers lines (a ∷ older) between

  abbrev rest : List Answer
  rest = answers lines (b ∷ a ∷ older) later

  abbrev renames : Answer → Answer
  renames = renamed_answer (exchanged (suc (length older)))

  pub answered : answers lines [] (in_turn before a between b later) ≡ in_turn (answers lines [] before) (found a) refusals (found b) rest
  answered = answers_append lines [] before (a ∷ (between ++ (b ∷ later))) ∙ ap (λ (l : List Answer). answers lines [] before ++ l) (in_turn_lem n later)

  -- what the two get travels with them, and of the events after them only the two numbers are exchanged
  pub answered_exchanged : answers lines [] (in_turn before b between a later) ≡ in_turn (answers lines [] before) (found b) refusals (found a) (map renames rest)
  answered_exchanged =
      answers_append lines [] before (b ∷ (between ++ (a ∷ later))) ∙
      ap (λ (l : List Answer). answers lines [] before ++ l)
      (in_turn_lem (other_way n) later ∙
      ap₂ (λ (x y : List Answer). found b ∷ (x ++ (found a ∷ y)))
      (refusals_same lines (a ∷ older) (b ∷ older) refl (same_depth n) n.refused)
      (follows lines a b older n.may later Swapped.two).same)

  -- the accepted events are the same, with the two exchanged
  pub accepted_swapped : Swapped a b older (accepted lines [] (in_turn before a between b later)) (accepted lines [] (in_turn before b between a later))
  accepted_swapped =
      rw (
        accepted_append lines [] before (a ∷ (between ++ (b ∷ later))),
        accepted_append lines [] before (b ∷ (between ++ (a ∷ later))),
        taken_in_turn n later,
        taken_in_turn (other_way n) later,
      )
      (follows lines a b older n.may later Swapped.two).swapped

  -- and there are as many findings other than none
  pub reported_exchanged : reported (answers lines [] (in_turn before b between a later)) ≡ reported (answers lines [] (in_turn before a between b later))
  reported_exchanged =
      ap reported answered_exchanged ∙ reported_in_turn (answers lines [] before) (found b) refusals (found a) (map renames rest) ∙
      omega (arith, reported_same (exchanged (suc (length older))) rest, reported_in_turn (answers lines [] before) (found a) refusals (found b) rest) ∙
      sym (ap reported answered)
