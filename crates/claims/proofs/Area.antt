-- Records that are all taken: their events are the accepted ones, and each finding's bytes stand at its event's place.
use Rattle.std.specs.Prelude.{Ok}
use mathlib.Core.Path.{◌≡◌, refl, ap, ◌∙◌}
use mathlib.Core.List.{List, [], ◌∷◌, ◌++◌, map}
use Prim.Native.Nat.{ℕ, suc, ◌+◌, ◌*◌}
use native.Mathlib.Omega.{arith}
use lib.ListN.{length, take, drop}
use lib.Seq.{drop-append-add}
use Rattle.event.specs.declared.Record.{Record}
use Rattle.event.specs.declared.Finding.{Finding}
use Rattle.event.specs.Answers.{Parsed}
use Rattle.codec.specs.Codec.{finding_bytes, finding_size}
use Rattle.history.specs.History.{History}
use Rattle.history.specs.View.{of_history}
use Rattle.history.specs.Found.{finding_by}
use Rattle.history.specs.Given.{Accepted, accepted, answers}
use Rattle.history.proofs.Given.{answer_found}
use Rattle.trace.specs.Records.{events_of}
use Rattle.verdict.specs.Verdict.{findings_bytes}
use Rattle.claims.proofs.Records.{Accepts}

-- records that are all taken are events
pub accepts_events : {lines : ℕ} {h : History} {records : List Parsed} {all : History} →
    Accepts lines h records all → records ≡ map Ok (events_of records)
unfolding events_of
accepts_events Accepts.done = refl
accepts_events (Accepts.takes {r = r} k rest) = ap (λ (l : List Parsed). Ok r ∷ l) (accepts_events rest)

-- and these are the accepted ones
pub accepts_accepted : {lines : ℕ} {h : History} {records : List Parsed} {all : History} →
    Accepts lines h records all → accepted lines h (events_of records) ≡ all
unfolding events_of accepted
accepts_accepted Accepts.done = refl
accepts_accepted {lines} {h} (Accepts.takes {r = r} k rest) = rw (answer_found lines h r k, accepted) (accepts_accepted rest)

-- to pass n + 1 findings is to pass the first and then n
past_finding : (f : Finding) (site : ℕ) (bytes : List ℕ) (n : ℕ) →
    drop (finding_size * suc n) (finding_bytes f site ++ bytes) ≡ drop (finding_size * n) bytes
past_finding f site bytes n =
    let place : finding_size * suc n ≡ finding_size + finding_size * n = omega arith in
    rw place (drop-append-add (finding_bytes f site) bytes (finding_size * n))

-- an event after others, all taken after the history: it is accepted after those before it, and its finding stands at its place
pub record Placed (lines : ℕ) (h : History) (before rest : List Record) (r : Record) (after : List ℕ) : Type 0 where
  pub takes : Accepted lines (accepted lines h before) r
  pub bytes : let given = before ++ r ∷ rest in
      take finding_size (drop (finding_size * length before) (findings_bytes given (answers lines h given) ++ after)) ≡
      finding_bytes (finding_by (of_history lines (accepted lines h before)) r.event) r.site

pub placed : {lines : ℕ} {h all : History} (before rest : List Record) (r : Record) (after : List ℕ) →
    Accepts lines h (map Ok (before ++ r ∷ rest)) all → Placed lines h before rest r after
unfolding accepted answers findings_bytes
placed {lines} {h} [] rest r after (Accepts.takes k more) = record { takes = k; bytes = rw (answer_found lines h r k) refl }
placed {lines} {h} (b ∷ before) rest r after (Accepts.takes k more) =
    let next = placed before rest r after more in
    let given = before ++ r ∷ rest in
    let bytes = findings_bytes given (answers lines (b ∷ h) given) ++ after in
    let past = past_finding (finding_by (of_history lines h) b.event) b.site bytes (length before) in
    record {
      takes = rw (answer_found lines h b k, accepted) next.takes;
      bytes = rw (answer_found lines h b k, accepted) (ap (take finding_size) past ∙ next.bytes);
    }
