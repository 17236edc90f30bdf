-- The buffer for the records of a trace: which of the two it is, and that it has room for their findings.
use mathlib.Core.Path.{◌≡◌, refl, sym, ap}
use mathlib.Core.Bool.{Bool, true, false, cond}
use mathlib.Core.List.{List}
use Prim.Native.Nat.{ℕ, ◌*◌, ◌≤◌, ◌<◌}
use native.Mathlib.Omega.{arith}
use lib.Dec.{leb}
use lib.ListN.{length, replicate, length-replicate}
use borrow.Author.Tests.{leb-true, le-leb, lt-leb}
use Rattle.codec.specs.Codec.{finding_size}
use Rattle.verdict.specs.Answers.{Verdict}
use Rattle.pass.specs.Pass.{all_judged}
use Rattle.judge.specs.Ends.{long_buffer, buffer_for, verdict_by, area_by}

module _ (count : ℕ) where
  -- at most 340 records have the short one
  pub short_buffer : count ≤ 340 → replicate 4080 0 ≡ buffer_for count
  unfolding buffer_for
  short_buffer k = ap (λ (b : Bool). replicate (cond b 4080 long_buffer) 0) (sym (le-leb count 340 k))

  -- more have the long one
  pub long_buffer_lem : 340 < count → replicate long_buffer 0 ≡ buffer_for count
  unfolding buffer_for
  long_buffer_lem k = ap (λ (b : Bool). replicate (cond b 4080 long_buffer) 0) (sym (lt-leb count 340 k))

  -- either has room
  pub short_room : count ≤ 340 → finding_size * count ≤ 4080
  short_room k = omega arith

  pub buffer_room : finding_size * count ≤ long_buffer → finding_size * count ≤ length (buffer_for count)
  unfolding buffer_for
  buffer_room k =
      let size = cond (leb count 340) 4080 long_buffer in
      let room : finding_size * count ≤ size = go (leb count 340) refl in
      rw (length-replicate {A = ℕ} size 0) room
    where
      go : (b : Bool) → leb count 340 ≡ b → finding_size * count ≤ cond b 4080 long_buffer
      go true e = short_room (leb-true count 340 e)
      go false e = k

-- the records judged into it
pub judged_into : (count lines : ℕ) (records area : List ℕ) {next buffer other : List ℕ} {v : Verdict} → buffer ≡ other →
    v ≡ verdict_by (all_judged count lines records buffer) → next ≡ area_by (finding_size * count) (all_judged count lines records buffer) area →
    (v ≡ verdict_by (all_judged count lines records other)) × (next ≡ area_by (finding_size * count) (all_judged count lines records other) area)
judged_into count lines records area e v a = (rw e at v, rw e at a)
