-- The run of a fresh window follows the history of no event.
use mathlib.Core.Path.{◌≡◌, refl}
use mathlib.Core.List.{[]}
use Prim.Native.Nat.{ℕ, zero, suc}
use native.Mathlib.Omega.{arith}
use lib.ListN.{length, replicate, length-replicate}
use Rattle.history.specs.Count.{count, last}
use Rattle.history.specs.Interval.{epoch_at, last_store, closing_fence, first_back}
use Rattle.history.specs.Transaction.{depth, outermost}
use Rattle.history.proofs.Meaning.Accepted.{Taken}
use Rattle.tables.specs.Table.{entry}
use Rattle.engine.specs.Call.{empty_run}
use Rattle.engine.specs.Tracks.{Tracks}
use Rattle.engine.proofs.Sizes.{Sized}
use Rattle.engine.proofs.OneEvent.{Follows}

-- each entry of a fresh table is 0
zeros : (n place : ℕ) → entry (replicate n 0) place ≡ 0
zeros zero place = refl
zeros (suc n) zero = refl
zeros (suc n) (suc place) = zeros n place

-- and there are as many as asked
zeros_length : (n : ℕ) → length (replicate {A = ℕ} n 0) ≡ n
zeros_length n = length-replicate {A = ℕ} n 0

-- so it tracks the history of no event
fresh_tracks : (lines : ℕ) → Tracks lines [] (empty_run lines)
unfolding empty_run epoch_at count last last_store closing_fence first_back depth outermost
fresh_tracks lines =
    record {
      window = refl;
      events = refl;
      epoch = refl;
      nesting = refl;
      began = refl;
      latest_store = refl;
      latest_fence = refl;
      stored = zeros 4096;
      logged = zeros 4096;
      fenced = λ b. rw (zeros 4096 b);
      opened = zeros 4096;
      closed = λ b some. absurd (some refl);
      written = λ b. rw (zeros 4096 b);
      dirtied = zeros 64;
      backed = zeros 64;
    }

-- its tables have their sizes
fresh_sized : (lines : ℕ) → Sized (empty_run lines)
unfolding empty_run
fresh_sized lines =
    record {
      stored = zeros_length 4096;
      logged = zeros_length 4096;
      fenced = zeros_length 4096;
      opened = zeros_length 4096;
      closed = zeros_length 4096;
      written = zeros_length 4096;
      dirtied = zeros_length 64;
      backed = zeros_length 64;
    }

-- and it follows that history
pub fresh_follows : (lines : ℕ) → Follows lines [] (empty_run lines)
unfolding empty_run
fresh_follows lines =
    record {
      tracks = fresh_tracks lines;
      sized = fresh_sized lines;
      taken = Taken.start;
      findings = omega arith;
      fenced = λ b. omega (arith, zeros 4096 b);
      written = λ b. omega (arith, zeros 4096 b);
    }
