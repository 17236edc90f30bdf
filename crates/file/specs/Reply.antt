-- What a call of a writer answers, in the paper's numbers. The record's number is 0.
use Rattle.std.specs.Prelude.{[], ◌∷◌}
use Rattle.event.specs.Reply.{Reply, reply_by, refusal_reply, no_values, check_reply}
use Rattle.file.specs.Answers.{Started, Written, Closed}

-- a start: it has no values
abbrev pub start_reply : Started → Reply
start_reply s = reply_by no_values refusal_reply s

-- an event: it has no values
abbrev pub written_reply : Written → Reply
written_reply w = check_reply w.check

-- a closing: the file's length
abbrev pub closed_reply : Closed → Reply
closed_reply c = reply_by (λ length. length ∷ []) refusal_reply c
