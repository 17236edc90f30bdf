-- What a call on a run answers, in the paper's numbers.
use Rattle.event.specs.Reply.{Reply, reply_by, refusal_reply, check_reply, answer_reply, named_values, totals_values}
use Rattle.events.specs.Give.{Given}
use Rattle.engine.specs.declared.Window.{Window}
use Rattle.engine.specs.Answers.{Asked, Closing}

-- a fresh window: it has no values
abbrev pub window_reply : Window → Reply
window_reply w = check_reply w.check

-- an event given singly: kind, lost, kept, moment, store
abbrev pub given_reply : Given → Reply
given_reply g = answer_reply g.answer

-- a byte asked: the epochs of its interval, and then its events
abbrev pub asked_reply : Asked → Reply
asked_reply a = reply_by named_values refusal_reply a

-- a closing: events, fences and the count of findings other than none
abbrev pub closing_reply : Closing → Reply
closing_reply c = reply_by totals_values refusal_reply c
