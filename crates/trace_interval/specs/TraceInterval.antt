-- The persist interval of a byte after all events of a trace, with the sites of the events that it names, read off the trace's bytes.
use Rattle.std.specs.Prelude.{cond, List, [], ◌∷◌, ◌++◌, ℕ, zero, suc, pred, eqb, length, Ok, Err}
use Rattle.event.specs.declared.NamedInterval.{NamedInterval}
use Rattle.event.specs.declared.NamedInterval.TheVariants.{None, Open, Closed}
use Rattle.event.specs.Answers.{Parsed, refused_at}
use Rattle.event.specs.declared.Refusal.TheVariants.{PastWindow}
use Rattle.event.specs.Reply.{Reply, reply_by, trace_refusal_reply, named_values}
use Rattle.ranges.specs.Ranges.{is_past}
use Rattle.history.specs.Count.{if_some}
use Rattle.history.specs.History.{History}
use Rattle.history.specs.Interval.{named_of}
use Rattle.engine.specs.Answers.{Asked}
use Rattle.engine.specs.Call.{ask_of}
use Rattle.trace.specs.Answers.{TraceCheck}
use Rattle.trace.specs.Records.{lines_in, records_in}
use Rattle.verdict.specs.Verdict.{file_check, history_of}
use Rattle.pass.specs.Pass.{Passed}
use Rattle.trace_interval.specs.declared.SitedInterval.{SitedInterval}
use Rattle.trace_interval.specs.declared.Sites.{Sites}
use Rattle.trace_interval.specs.Answers.{TraceInterval, sited}

-- the site of a record
abbrev pub site_of : Parsed → ℕ
site_of (Ok r) = r.site
site_of (Err x) = 0

-- the site of the record with so many before it
unfoldable pub site_after : List Parsed → ℕ → ℕ
site_after [] n = 0
site_after (p ∷ rest) zero = site_of p
site_after (p ∷ rest) (suc n) = site_after rest n

-- the site of an event: event n of an accepted trace is its record n; 0 where no event is meant
abbrev pub site_in : List Parsed → ℕ → ℕ
site_in records event = if_some event 0 (λ n. site_after records (pred n))

-- the same over the accepted events: the site of event number i
unfoldable pub site_of_event : History → ℕ → ℕ
site_of_event [] i = 0
site_of_event (r ∷ h) i = cond (eqb i (suc (length h))) r.site (site_of_event h i)

abbrev pub sites : (store back fence : ℕ) → Sites
sites store back fence = record { store = store; back = back; fence = fence }

-- the sites of the events that an interval names
abbrev pub sites_in : List Parsed → NamedInterval → Sites
sites_in records None = sites 0 0 0
sites_in records (Open opened store back) = sites (site_in records store) (site_in records back) 0
sites_in records (Closed opened closed store back fence) = sites (site_in records store) (site_in records back) (site_in records fence)

-- a byte asked: 9 names no record
abbrev pub with_sites : List Parsed → Asked → TraceInterval
with_sites records (Err x) = refused_at x 0
with_sites records (Ok i) = sited i (sites_in records i)

-- after every other check, the answer to the byte asked
abbrev pub unless_refused : TraceCheck → TraceInterval → TraceInterval
unless_refused (Err r) answer = Err r
unless_refused (Ok _) answer = answer

-- 9 where the byte is past a window of so many lines, else its interval by the accepted events
abbrev pub asked_after : (lines : ℕ) → History → ℕ → Asked
asked_after lines h byte = cond (is_past lines (record { address = byte; length = 1 })) (Err PastWindow) (Ok (named_of h byte))

unfoldable pub trace_interval_of : List ℕ → ℕ → TraceInterval
trace_interval_of trace byte = unless_refused (file_check trace) (with_sites (records_in trace) (asked_after (lines_in trace) (history_of trace) byte))

-- the answer from where the records lead, as the code goes over them
abbrev pub interval_by : List Parsed → Passed → ℕ → TraceInterval
interval_by records e byte = unless_refused e.check (with_sites records (ask_of e.stage.run byte))

-- the sites of the events named, in the order of the events
abbrev pub site_values : NamedInterval → Sites → List ℕ
site_values None s = []
site_values (Open opened store back) s = s.store ∷ s.back ∷ []
site_values (Closed opened closed store back fence) s = s.store ∷ s.back ∷ s.fence ∷ []

-- the answer in the paper's numbers: the epochs, the events, and the sites of the events
abbrev pub sited_values : SitedInterval → List ℕ
sited_values k = named_values k.interval ++ site_values k.interval k.sites

abbrev pub trace_interval_reply : TraceInterval → Reply
trace_interval_reply t = reply_by sited_values trace_refusal_reply t
