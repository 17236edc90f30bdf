-- Request 8: ranges ordered against themselves. An ordered whose A and B share a byte is refused by 18, after 9 and before 10: given
-- singly, in a trace at its record, and by the writer. What is said of events given singly is over every list of given events from the
-- run of every asked line count.
use Rattle.std.specs.Prelude.{◌≡◌, true, false, ◌⊎◌, ◌↔◌, ℕ, suc, ◌+◌, ◌*◌, ◌≤◌, ◌<◌, take, drop}
use mathlib.Core.List.{List, [], ◌++◌, Memᴰ}
use Rattle.event.specs.declared.Range.{Range}
use Rattle.event.specs.declared.Event.{Event}
use Rattle.event.specs.declared.Event.TheVariants.{Ordered}
use Rattle.event.specs.declared.Record.{Record}
use Rattle.event.specs.Reply.{Reply}
use Rattle.window.specs.Window.{window_bytes}
use Rattle.ranges.specs.Ranges.{range_end, covers, ranges_of, shares_byte, ranges_share}
use Rattle.records.specs.Record.{record_size, record_of}
use Rattle.history.specs.History.{History}
use Rattle.history.specs.View.{View}
use Rattle.history.specs.Refused.{limits_by, NoneBroken, first_broken, refusal_by}
use Rattle.history.specs.Given.{window_of, Accepted}
use Rattle.events.specs.Give.{give_of}
use Rattle.engine.specs.Reply.{given_reply}
use Rattle.trailer.specs.Trailer.{trailer_size, most_bytes, trailer_of}
use Rattle.trace.specs.Records.{record_part, lines_in}
use Rattle.trace.specs.Checked.{read_limits}
use Rattle.file.specs.declared.Writer.{Writer}
use Rattle.file.specs.Write.{records_end, written_of, area_written}
use Rattle.file.specs.Reply.{written_reply}
use Rattle.verdict.specs.Verdict.{trace_limits}
use Rattle.claims.specs.After.{run_from}
use Rattle.claims.specs.Traces.{Takes, Rejected}

-- an ordered, in a window of so many lines, whose A and B share a byte: both cover it
pub data OrderedShares (lines : ℕ) : Event → Type 0 where
  shares : {a b : Range} (byte : ℕ) → range_end a ≤ window_bytes lines → range_end b ≤ window_bytes lines →
      covers a byte ≡ true → covers b byte ≡ true → OrderedShares lines (Ordered a b)

-- the bytes of the record after so many
abbrev pub record_after : (before : ℕ) (trace : List ℕ) → List ℕ
record_after before trace = take record_size (drop (record_size * before) (record_part (trailer_of trace).offset trace))

pub record SharedRanges : Type 0 where
  -- the limit is broken exactly if some byte is covered by A and by B; an empty range shares no byte
  pub shared : (a b : Range) → (shares_byte a b ≡ true) ↔ ((byte : ℕ) × (covers a byte ≡ true) × (covers b byte ≡ true))
  pub empty : (a b : Range) → (a.length ≡ 0) ⊎ (b.length ≡ 0) → shares_byte a b ≡ false
  -- such an ordered given singly is refused by 18, also where 65,535 events are taken, and the run is as it was
  pub singly : (asked : ℕ) (given : List Record) (r : Record) → OrderedShares (window_of asked) r.event →
      (given_reply (give_of (run_from asked given) r) ≡ Reply.refused 18 0) × ((give_of (run_from asked given) r).run ≡ run_from asked given)
  -- 9 goes first: one with a range past the window is refused by 9, whether A and B share a byte or not
  pub nine_first : (asked : ℕ) (given : List Record) (r : Record) {a : Range} → Memᴰ a (ranges_of r.event) →
      window_bytes (window_of asked) < range_end a → given_reply (give_of (run_from asked given) r) ≡ Reply.refused 9 0
  -- nothing else is refused by 18
  pub nothing_else : (asked : ℕ) (given : List Record) (r : Record) (at : ℕ) →
      given_reply (give_of (run_from asked given) r) ≡ Reply.refused 18 at → OrderedShares (window_of asked) r.event
  -- in a trace it is refused at its record, where that can be read and all before it are taken
  pub traces : (trace area : List ℕ) (before : ℕ) {h : History} → NoneBroken (trace_limits trace area) → before < (trailer_of trace).count →
      Takes (lines_in trace) [] before (record_part (trailer_of trace).offset trace) h → NoneBroken (read_limits (record_after before trace)) →
      OrderedShares (lines_in trace) (record_of (record_after before trace)).event → Rejected trace area 18 (suc before)
  -- by any writer, unless 2 applies; writer and area are as they were
  pub writes : (area : List ℕ) (w : Writer) (r : Record) → records_end w + record_size + trailer_size ≤ most_bytes → OrderedShares w.lines r.event →
      (written_reply (written_of area w r) ≡ Reply.refused 18 0) × ((written_of area w r).writer ≡ w) × (area_written area w r ≡ area)
  -- every other event is refused by the limits that there were before, in their order: 9, 10, 11, 12
  pub others : (v : View) (e : Event) → ranges_share e ≡ false → refusal_by v e ≡ first_broken (take 1 (limits_by v e) ++ drop 2 (limits_by v e))
  -- an accepted ordered has no byte in both its ranges
  pub apart : (lines : ℕ) (h : History) (r : Record) {a b : Range} (byte : ℕ) → Accepted lines h r → r.event ≡ Ordered a b →
      covers a byte ≡ true → covers b byte ≡ false
