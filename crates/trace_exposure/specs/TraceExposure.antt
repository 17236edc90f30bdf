-- The mean exposure of a whole trace, read off its bytes, by what its accepted events say.
use Rattle.std.specs.Prelude.{List, ℕ, Ok, Err}
use Rattle.event.specs.Reply.{Reply, reply_by, trace_refusal_reply}
use Rattle.history.specs.Interval.{interval_of}
use Rattle.exposure.specs.Answers.{Exposed}
use Rattle.exposure.specs.Exposure.{exposure_in, exposure_of, mean_values}
use Rattle.trace.specs.Answers.{TraceCheck}
use Rattle.trace.specs.Records.{lines_in}
use Rattle.verdict.specs.Verdict.{file_check, history_of}
use Rattle.pass.specs.Pass.{Passed}
use Rattle.trace_exposure.specs.Answers.{TraceExposure}
use Rattle.event.specs.Answers.{refused_at}

-- what a run answers: 17 names no record
abbrev pub without_record : Exposed → TraceExposure
without_record (Err x) = refused_at x 0
without_record (Ok m) = Ok m

-- after every other check, the answer of the run
abbrev pub unless_refused : TraceCheck → Exposed → TraceExposure
unless_refused (Err r) e = Err r
unless_refused (Ok _) e = without_record e

unfoldable pub trace_exposure_of : List ℕ → TraceExposure
trace_exposure_of trace = unless_refused (file_check trace) (exposure_in (lines_in trace) (interval_of (history_of trace)))

-- the answer from where the records lead, as the code goes over them
abbrev pub exposure_by : Passed → TraceExposure
exposure_by e = unless_refused e.check (exposure_of e.stage.run)

-- the answer in the paper's numbers
abbrev pub trace_exposure_reply : TraceExposure → Reply
trace_exposure_reply e = reply_by mean_values trace_refusal_reply e
