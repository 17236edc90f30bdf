-- An event given, from the check of the limits.
use Rattle.std.proofs.Common.{◌≡◌, ap}
use Rattle.event.specs.declared.Record.{Record}
use Rattle.event.specs.Answers.{Check}
use Rattle.history.specs.Refused.{refusal_by}
use Rattle.tables.specs.Run.{Run}
use Rattle.tables.specs.View.{limits_of}
use Rattle.events.specs.Give.{given_for, give_of}
use Rattle.events.specs.Follow.{followed_for, follow_of}

-- the limits ask for the numbers alone
pub by_check : (run : Run) (r : Record) {c : Check} → refusal_by (limits_of run.counts) r.event ≡ c → give_of run r ≡ given_for c run r.event
unfolding give_of refusal_by
by_check run r e = ap (λ (c : Check). given_for c run r.event) e

pub follow_by_check : (run : Run) (r : Record) {c : Check} → refusal_by (limits_of run.counts) r.event ≡ c →
    follow_of run r ≡ followed_for c run r.event
unfolding follow_of refusal_by
follow_by_check run r e = ap (λ (c : Check). followed_for c run r.event) e
