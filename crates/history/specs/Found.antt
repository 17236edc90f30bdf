-- The finding of an event, computed from what a judge asks of the run before it.
use Rattle.std.specs.Prelude.{Bool, cond, not, ◌&&◌, ◌||◌, ℕ, zero, suc, leb, ltb, eqb}
use Rattle.std.proofs.Math.Option.{Option, none, some}
use Rattle.event.specs.declared.Range.{Range}
use Rattle.event.specs.declared.Event.{Event}
use Rattle.event.specs.declared.Event.TheVariants.{Store, WriteBack, Fence, Begin, Log, End, Persisted, Ordered}
use Rattle.event.specs.declared.Finding.{Finding}
use Rattle.event.specs.declared.Finding.TheVariants.{None, Holds, Lost, OutOfOrder, Unlogged, Clean, WrittenTwice, LoggedTwice, Empty}
use Rattle.window.specs.Window.{window_bytes, line_of, word_of, line_start}
use Rattle.ranges.specs.Ranges.{line_count}
use Rattle.history.specs.View.{View}

-- the lowest of the n numbers from x on that passes
unfoldable pub lowest : (ℕ → Bool) → ℕ → ℕ → Option ℕ
lowest p x zero = none
lowest p x (suc n) = let rest = lowest p (suc x) n in cond (p x) (some x) rest

-- the lowest byte of a range that passes
abbrev pub lowest_in : (ℕ → Bool) → Range → Option ℕ
lowest_in p a = lowest p a.address a.length

-- the finding at what was found, or the other one where nothing was
abbrev pub found_or : Option ℕ → Finding → (ℕ → Finding) → Finding
found_or none other at = other
found_or (some x) other at = at x

-- event number n is since the outermost begin
abbrev pub since : View → ℕ → Bool
since v n = ltb v.begin n

-- the byte was logged since the outermost begin
abbrev pub logged : View → ℕ → Bool
logged v b = since v (v.last_log b)

-- a transaction is open, and the byte not logged in it
abbrev pub unlogged : View → ℕ → Bool
unlogged v b = not (eqb v.depth 0) && not (logged v b)

-- the line was never stored to
abbrev pub clean : View → ℕ → Bool
clean v l = eqb (v.line_store l) 0

-- the line was stored to, but not since its last write-back
abbrev pub written_twice : View → ℕ → Bool
written_twice v l = not (clean v l) && ltb (v.line_store l) (v.line_back l)

-- the warning of a line that fits either, with its start address
abbrev pub warned_line : View → ℕ → Finding
warned_line v l = cond (clean v l) (Clean (line_start l)) (WrittenTwice (line_start l))

-- a persisted is broken at the byte: its interval is open, so its last store may be lost
abbrev pub at_risk : View → ℕ → Bool
at_risk v b = v.risk b

-- holds, or lost at the byte found; the event's own number is the moment
abbrev pub durable : View → Option ℕ → Finding
durable v found = found_or found Holds (λ b. Lost b (suc v.events) (v.last_store b))

-- the byte's interval was closed by event m
abbrev pub closed_by : View → ℕ → ℕ → Bool
closed_by v b m = not (eqb (v.closing b) 0) && leb (v.closing b) m

-- a crash may keep the first byte and lose the second. Both were stored to; on one line the kept store is the older, or one store set
-- both in different words; and on two lines the lost byte's interval was not closed by the kept store
abbrev pub breaks : View → ℕ → ℕ → Bool
breaks v kept lost =
    not (eqb (v.last_store kept) 0) && not (eqb (v.last_store lost) 0) &&
    cond (eqb (line_of kept) (line_of lost))
    (ltb (v.last_store kept) (v.last_store lost) || eqb (v.last_store kept) (v.last_store lost) && not (eqb (word_of kept) (word_of lost)))
    (not (closed_by v lost (v.last_store kept)))

-- a kept byte and a lost one
pub record Pair : Type 0 where
  pub kept : ℕ
  pub lost : ℕ

-- the pair of the byte with the partner found, or what the rest gives where none was found
abbrev pub or_pair : ℕ → Option ℕ → Option Pair → Option Pair
or_pair kept none rest = rest
or_pair kept (some lost) rest = some (record { kept = kept; lost = lost })

-- the lowest of the n bytes from x on that has a partner in the range, with its lowest partner
unfoldable pub lowest_pair : (ℕ → ℕ → Bool) → Range → ℕ → ℕ → Option Pair
lowest_pair p a x zero = none
lowest_pair p a x (suc n) = let rest = lowest_pair p a (suc x) n in or_pair x (lowest_in (p x) a) rest

-- holds, or out of order at the pair found; the kept byte's last store is the moment
abbrev pub in_order : View → Option Pair → Finding
in_order v none = Holds
in_order v (some p) = OutOfOrder p.lost p.kept (v.last_store p.kept) (v.last_store p.lost)

-- an outermost end is judged over the bytes stored since its begin
abbrev pub outermost_end : View → Finding
outermost_end v =
    cond (since v v.latest_store)
    (durable v (lowest (λ b. v.stored_since b && at_risk v b) 0 (window_bytes v.lines)))
    Empty

-- the finding of each kind of event
unfoldable pub finding_by : View → Event → Finding
finding_by v (Store a) = found_or (lowest_in (unlogged v) a) None Unlogged
finding_by v (WriteBack a) = found_or (lowest (λ l. clean v l || written_twice v l) (line_of a.address) (line_count a)) None (warned_line v)
finding_by v Fence = None
finding_by v Begin = None
finding_by v (Log a) = found_or (lowest_in (logged v) a) None LoggedTwice
finding_by v End = cond (eqb v.depth 1) (outermost_end v) None
finding_by v (Persisted a) = durable v (lowest_in (at_risk v) a)
finding_by v (Ordered a b) = in_order v (lowest_pair (breaks v) a b.address b.length)
