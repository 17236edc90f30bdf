-- Request 8 holds: ranges ordered against themselves.
use mathlib.Core.Path.{◌≡◌, ap}
use mathlib.Core.Bool.{false}
use mathlib.Core.Logic.{◌⊎◌, inl, inr}
use mathlib.Core.List.{List, [], ◌∷◌, ◌++◌}
use Prim.Native.Nat.{ℕ, zero, suc, ◌+◌, ◌*◌, ◌<◌}
use native.Mathlib.Omega.{arith}
use lib.ListN.{length, take, drop}
use lib.Seq.{drop-drop}
use borrow.Author.Tests.{le-ltb, lt-ltb, ltb-false}
use Rattle.event.specs.declared.Event.{Event}
use Rattle.event.specs.declared.Record.{Record}
use Rattle.event.specs.declared.Refusal.{Refusal}
use Rattle.event.specs.declared.Refusal.TheVariants.{SharedByte}
use Rattle.event.specs.Numbers.{number_of}
use Rattle.event.specs.Reply.{Reply, answer_reply}
use Rattle.event.proofs.Bools.{fails, or_neither}
use Rattle.window.specs.Window.{window_bytes}
use Rattle.ranges.specs.Ranges.{range_end, covers, is_past, any_range, ranges_share}
use Rattle.ranges.proofs.Meaning.{shared_byte_lem, byte_shared, empty_shares}
use Rattle.records.specs.Record.{record_size}
use Rattle.history.specs.History.{History}
use Rattle.history.specs.View.{View, of_history}
use Rattle.history.specs.Refused.{Limit, limits_by, First, NoneBroken, first_broken, refusal_by}
use Rattle.history.specs.Given.{window_of, RefusedBy, Accepted}
use Rattle.history.proofs.Meaning.Refusals.{Applies, range_any, shared_ranges, accepted_none}
use Rattle.events.specs.Give.{Given}
use Rattle.events.specs.Give.{give_of}
use Rattle.engine.specs.Reply.{given_reply}
use Rattle.trailer.specs.Trailer.{trailer_size, most_bytes}
use Rattle.trace.specs.Records.{lines_in}
use Rattle.file.specs.Limits.{room_limit}
use Rattle.file.specs.Write.{records_end, view_of}
use Rattle.claims.specs.After.{run_from, taken_from}
use Rattle.claims.specs.Traces.{record_limits, Stops, Takes}
use Rattle.claims.specs.SharedRanges.{OrderedShares, SharedRanges}
use Rattle.claims.proofs.Answers.{decided, refused, taken, not_refused}
use Rattle.claims.proofs.Traces.{record_refused_lem}
use Rattle.claims.proofs.WriterLimits.{write_refused_lem}
use Rattle.claims.proofs.Written.{first_part}

-- 9 does not apply to such an ordered, and 18 does
shares_first : (v : View) {e : Event} → OrderedShares v.lines e → First (limits_by v e) SharedByte
shares_first v (OrderedShares.shares {a = a} {b = b} byte p q c d) =
    let inside : any_range (is_past v.lines) (a ∷ b ∷ []) ≡ false = rw (le-ltb (window_bytes v.lines) (range_end a) p, le-ltb (window_bytes v.lines) (range_end b) q) in
    First.later inside (First.here (byte_shared a b byte c d))

-- and 18 applies first to no other event
first_shares : (v : View) (e : Event) {x : Refusal} → First (limits_by v e) x → number_of x ≡ 18 → OrderedShares v.lines e
first_shares v e (First.here t) n = absurd (omega (arith, n))
first_shares v e (First.later p (First.here t)) n =
    let x = shared_ranges e t in
    let byte = shared_byte_lem x.0 x.1 x.3 in
    let past = or_neither (is_past v.lines x.0) _ (rw x.2 at p) in
    let inside = or_neither (is_past v.lines x.1) _ past.1 in
    rw x.2 (OrderedShares.shares byte.0 (ltb-false _ _ past.0) (ltb-false _ _ inside.0) byte.1 byte.2)
first_shares v e (First.later p (First.later s (First.here t))) n = absurd (omega (arith, n))
first_shares v e (First.later p (First.later s (First.later a (First.here t)))) n = absurd (omega (arith, n))
first_shares v e (First.later p (First.later s (First.later a (First.later b (First.here t))))) n = absurd (omega (arith, n))
first_shares v e (First.later p (First.later s (First.later a (First.later b (First.later t none))))) n = elim none [ ]

module _ (asked : ℕ) (given : List Record) (r : Record) where
  only_such : (at : ℕ) → given_reply (give_of (run_from asked given) r) ≡ Reply.refused 18 at → OrderedShares (window_of asked) r.event
  only_such at e = go (decided asked given r)
    where
      go : ((x : Refusal) × RefusedBy (window_of asked) (taken_from asked given) r x) ⊎ Accepted (window_of asked) (taken_from asked given) r →
          OrderedShares (window_of asked) r.event
      go (inl (x, f)) =
          let number : number_of x ≡ 18 = cc (ap given_reply (refused asked given r f)) in
          first_shares (of_history (window_of asked) (taken_from asked given)) r.event f number
      go (inr f) = absurd (not_refused (ap answer_reply (taken asked given r f)) e)

-- a number that applies first after a part that passes
first_rest : {a b : List Limit} {x : Refusal} → NoneBroken a → First b x → First (a ++ b) x
first_rest NoneBroken.nil k = k
first_rest (NoneBroken.cons e j) k = First.later e (first_rest j k)

-- where so many records are taken, the next one decides
stops_after : {lines before count : ℕ} (n m : ℕ) {h all : History} {s : List ℕ} {x : Refusal} → Takes lines h before s all → before < count →
    m ≡ n + before → First (record_limits lines all (take record_size (drop (record_size * before) s))) x → Stops lines n h count s x m
stops_after {count = zero} n m t less e k = absurd (omega (arith, less))
stops_after {count = suc count} n m Takes.done less e k = let same : m ≡ n = omega arith in rw same (Stops.here k)
stops_after {lines} {count = suc count} n m {all = all} {s = s} {x = x} (Takes.takes {count = before} j rest) less e k =
    let place : record_size + record_size * before ≡ record_size * suc before = omega arith in
    let next : First (record_limits lines all (take record_size (drop (record_size * before) (drop record_size s)))) x = rw (drop-drop (record_size * before) record_size s, place) k in
    Stops.later j (stops_after {before = before} {count = count} (suc n) m rest (omega (arith, less)) (omega arith) next)

-- without 18 the limits are those that there were before
as_before : (v : View) (e : Event) → ranges_share e ≡ false → refusal_by v e ≡ first_broken (take 1 (limits_by v e) ++ drop 2 (limits_by v e))
unfolding refusal_by
as_before v e k = rw k

pub shared_ranges_refused : SharedRanges
shared_ranges_refused =
    record {
      shared = λ a b. (shared_byte_lem a b, λ x. byte_shared a b x.0 x.1 x.2);
      empty = empty_shares;
      singly = λ asked given r k.
          let first = shares_first (of_history (window_of asked) (taken_from asked given)) k in
          (ap given_reply (refused asked given r first), ap (λ (g : Given). g.run) (refused asked given r first));
      nine_first = λ asked given r {a} m k.
          ap given_reply (refused asked given r (First.here (range_any (is_past (window_of asked)) m (lt-ltb (window_bytes (window_of asked)) (range_end a) k))));
      nothing_else = only_such;
      traces = λ trace area before {h} limits less t read k.
          record_refused_lem trace area {x = SharedByte} limits (stops_after 1 (suc before) t less (omega arith) (first_rest read (shares_first (of_history (lines_in trace) h) k)));
      writes = λ area w r short k.
          write_refused_lem area w r {x = SharedByte}
          (First.later (le-ltb most_bytes (records_end w + record_size + trailer_size) short)
          (first_part (shares_first (view_of w) k) (room_limit (length area) (records_end w + record_size) ∷ [])));
      others = as_before;
      apart = λ lines h r {a} {b} byte k e c. fails (covers b byte) (λ d. accepted_none lines h r k (Applies.shared_byte byte e c d));
    }
