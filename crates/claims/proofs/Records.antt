-- The limits on a record's bytes, beside what reading the record and checking its event say.
use Rattle.std.specs.Prelude.{Ok, Err}
use mathlib.Core.Path.{◌≡◌, refl, ◌∙◌, ap}
use mathlib.Core.Bool.{Bool, true, false, cond}
use mathlib.Core.List.{List, [], ◌∷◌}
use Prim.Native.Nat.{ℕ, suc}
use lib.ListN.{take}
use Rattle.event.specs.declared.Record.{Record}
use Rattle.event.specs.declared.Refusal.{Refusal}
use Rattle.event.specs.declared.Refusal.TheVariants.{UnknownKind, FieldSet}
use Rattle.event.specs.Answers.{Check, Parsed}
use Rattle.event.specs.Numbers.{number_of}
use Rattle.event.specs.Reply.{Reply}
use Rattle.records.specs.Record.{record_size, bad_kind, field_set, record_of, parsed, read_reply}
use Rattle.history.specs.History.{History}
use Rattle.history.specs.View.{of_history}
use Rattle.history.specs.Refused.{limits_by, First, NoneBroken, first_broken, refusal_by}
use Rattle.history.specs.Given.{Accepted}
use Rattle.history.proofs.Given.{first_broken_lem, none_broken}
use Rattle.trace.specs.Answers.{TraceCheck}
use Rattle.trace.specs.Records.{records_of}
use Rattle.trace.specs.Checked.{read_limits, unless_broken, check_from}
use Rattle.trace.proofs.ReadLimits.{read_by, read_by_limits}
use Rattle.claims.specs.Traces.{record_limits, Takes}

-- a record read by itself: by the first of 6 and 7 that applies, or as its bytes say
pub read_refused_lem : (s : List ℕ) {x : Refusal} → First (read_limits s) x → read_reply (parsed s) ≡ Reply.refused (number_of x) 0
read_refused_lem s k = ap read_reply (read_by_limits s ∙ ap (λ (c : Check). read_by c (record_of s)) (first_broken_lem k))

pub read_taken_lem : (s : List ℕ) → NoneBroken (read_limits s) → parsed s ≡ Ok (record_of s)
read_taken_lem s k = read_by_limits s ∙ ap (λ (c : Check). read_by c (record_of s)) (none_broken k)

-- a record that no number refuses: its bytes are read, and its event is accepted
pub bytes_pass : (lines : ℕ) (h : History) (s : List ℕ) → NoneBroken (record_limits lines h s) → parsed s ≡ Ok (record_of s)
bytes_pass lines h s (NoneBroken.cons a (NoneBroken.cons b k)) = read_taken_lem s (NoneBroken.cons a (NoneBroken.cons b NoneBroken.nil))

pub event_passes : (lines : ℕ) (h : History) (s : List ℕ) → NoneBroken (record_limits lines h s) → Accepted lines h (record_of s)
event_passes lines h s (NoneBroken.cons a (NoneBroken.cons b k)) = k

-- the check of records goes by these limits
pub record_checked : (lines n : ℕ) (h : History) (s : List ℕ) (rest : List Parsed) →
    check_from lines n h (parsed s ∷ rest) ≡ unless_broken (first_broken (record_limits lines h s)) n (check_from lines (suc n) (record_of s ∷ h) rest)
unfolding check_from refusal_by
record_checked lines n h s rest = go (bad_kind s) (field_set s)
  where
    next : TraceCheck
    next = check_from lines (suc n) (record_of s ∷ h) rest

    go : (a b : Bool) → check_from lines n h (cond a (Err UnknownKind) (cond b (Err FieldSet) (Ok (record_of s))) ∷ rest) ≡
        unless_broken (cond a (Err UnknownKind) (cond b (Err FieldSet) (first_broken (limits_by (of_history lines h) (record_of s).event)))) n next
    go true b = refl
    go false true = refl
    go false false = refl

-- records that can all be read and are all accepted after the history
pub data Accepts (lines : ℕ) : History → List Parsed → History → Type 0 where
  done : {h : History} → Accepts lines h [] h
  takes : {h : History} {r : Record} {rest : List Parsed} {all : History} → Accepted lines h r → Accepts lines (r ∷ h) rest all →
      Accepts lines h (Ok r ∷ rest) all

pub takes_accepts : {lines count : ℕ} {h all : History} {s : List ℕ} → Takes lines h count s all → Accepts lines h (records_of count s) all
unfolding records_of
takes_accepts Takes.done = Accepts.done
takes_accepts {lines} {h = h} {s = s} (Takes.takes k rest) =
    rw (bytes_pass lines h (take record_size s) k) (Accepts.takes (event_passes lines h (take record_size s) k) (takes_accepts rest))
