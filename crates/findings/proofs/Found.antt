-- The findings that the code makes from the tables are those that a judge makes of the run.
use mathlib.Core.Path.{◌≡◌, refl, fun_ext}
use mathlib.Core.Bool.{Bool, true, false, cond, not, ◌&&◌, ◌||◌}
use mathlib.Core.List.{[]}
use mathlib.Core.Logic.{◌≢◌}
use mathlib.Core.Option.{Option, none, some}
use Prim.Native.Nat.{ℕ, zero, suc}
use native.Mathlib.Omega.{arith}
use lib.Dec.{eqb, ltb, leb}
use borrow.Author.Tests.{eq-eqb, ne_eqb}
use Rattle.event.specs.declared.Range.{Range}
use Rattle.event.specs.declared.Event.TheVariants.{Store, WriteBack, Log, End, Persisted, Ordered}
use Rattle.event.specs.declared.Finding.TheVariants.{None, Unlogged}
use Rattle.window.specs.Window.{line_of, word_of}
use Rattle.ranges.specs.Ranges.{line_count}
use Rattle.history.specs.Found.{Pair, lowest, lowest_in, lowest_pair, found_or, unlogged, clean, written_twice, warned_line, at_risk, breaks, in_order, finding_by}
use Rattle.tables.specs.Run.{Run}
use Rattle.tables.specs.Table.{entry}
use Rattle.tables.specs.View.{run_of, no_counts, since_store, open_line, of_run}
use Rattle.tables.proofs.SinceStore.{open_at}
use Rattle.searches.specs.declared.Test.TheVariants.{NotSince, Wasted}
use Rattle.searches.specs.Tests.{passing, open_byte, lost_at_end}
use Rattle.searches.proofs.Searched.{lowest_none}
use Rattle.pairs.specs.Pairs.{is_broken, broken_pair}
use Rattle.findings.specs.Findings.{durable_at, ended_at}

-- the test of a pair, by the entries of the kept and of the lost byte
broken_test : (ks ls lf : ℕ) (line word : Bool) →
    not (eqb ks 0) && not (eqb ls 0) &&
    cond line (ltb ks ls || eqb ks ls && not word) (not (not (eqb (since_store ls lf) 0) && leb (since_store ls lf) ks)) ≡
    is_broken ks ls line word lf
broken_test zero ls lf line word = refl
broken_test (suc ks) zero lf line word = rw (ne_eqb (suc ks) 0 (λ z. absurd (omega arith)))
broken_test (suc ks) (suc ls) lf line word = rw (open_at (suc ls) lf (suc ks) (λ z. absurd (omega arith)))

module _ (run : Run) where
  -- outside a transaction no store is unlogged
  pub store_outside : (a : Range) → run.counts.depth ≡ 0 → None ≡ finding_by (of_run run) (Store a)
  unfolding finding_by
  store_outside a z = rw (lowest_none (unlogged (of_run run)) a.length a.address (λ b h k. rw (eq-eqb run.counts.depth 0 z)))

  -- inside one it goes by the logs
  pub store_inside : (a : Range) → run.counts.depth ≢ 0 →
      found_or (lowest_in (passing (NotSince run.counts.begin) run.logged run.logged) a) None Unlogged ≡ finding_by (of_run run) (Store a)
  unfolding finding_by
  store_inside a z =
      let same : unlogged (of_run run) ≡ passing (NotSince run.counts.begin) run.logged run.logged = fun_ext (λ b. rw (ne_eqb run.counts.depth 0 z)) in
      rw same

  -- a write-back goes by the last store and the last write-back of each line
  pub back_found : (a : Range) →
      finding_by (of_run run) (WriteBack a) ≡
      found_or (lowest (passing Wasted run.dirtied run.backed) (line_of a.address) (line_count a)) None (warned_line (of_run run))
  unfolding finding_by
  back_found a =
      let same : (λ l. clean (of_run run) l || written_twice (of_run run) l) ≡ passing Wasted run.dirtied run.backed =
      fun_ext (λ l. wasted (eqb (entry run.dirtied l) 0) (ltb (entry run.dirtied l) (entry run.backed l))) in
      rw same
    where
      wasted : (w t : Bool) → w || (not w && t) ≡ (w || t)
      wasted true t = refl
      wasted false t = refl

  -- a persisted goes by its bytes' last stores and closing fences, and by their lines
  pub persisted_found : (a : Range) →
      finding_by (of_run run) (Persisted a) ≡
      durable_at (suc run.counts.events) run.stored
      (lowest_in (open_byte run.counts.fence run.stored run.fenced run.dirtied run.backed) a)
  unfolding finding_by
  persisted_found a = refl

  -- an end likewise, over the bytes stored to since the begin
  pub end_found : finding_by (of_run run) End ≡ ended_at (suc run.counts.events) run.counts run.stored run.fenced run.dirtied run.backed
  unfolding finding_by
  end_found =
      let same :
      (λ b. (of_run run).stored_since b && at_risk (of_run run) b) ≡
      lost_at_end run.counts.begin run.counts.fence run.stored run.fenced run.dirtied run.backed =
      fun_ext
      (λ b.
      lines_first (ltb run.counts.begin (entry run.dirtied (line_of b))) (ltb run.counts.begin (entry run.stored b))
      (open_line run.counts.fence run.dirtied run.backed (line_of b)) (ltb (entry run.fenced b) (entry run.stored b))) in
      rw same
    where
      lines_first : (d s l o : Bool) → (d && s) && (l && o) ≡ (d && l) && (s && o)
      lines_first false s l o = refl
      lines_first true true l o = refl
      lines_first true false true o = refl
      lines_first true false false o = refl

  -- an ordered goes by the last stores of both bytes and the closing fence of the lost one
  pub ordered_found : (a b : Range) →
      finding_by (of_run run) (Ordered a b) ≡ in_order (of_run run) (lowest_pair (broken_pair run.stored run.fenced) a b.address b.length)
  unfolding finding_by
  ordered_found a b =
      let same : breaks (of_run run) ≡ broken_pair run.stored run.fenced =
      fun_ext (λ kept. fun_ext (λ lost.
      broken_test (entry run.stored kept) (entry run.stored lost) (entry run.fenced lost)
      (eqb (line_of kept) (line_of lost)) (eqb (word_of kept) (word_of lost)))) in
      rw same

  -- and asks for no other tables
  pub ordered_tables : (a b : Range) →
      finding_by (of_run run) (Ordered a b) ≡ finding_by (of_run (run_of (no_counts 0) run.stored [] run.fenced [] [] [] [] [])) (Ordered a b)
  unfolding finding_by
  ordered_tables a b = go (lowest_pair (breaks (of_run run)) a b.address b.length)
    where
      go : (found : Option Pair) → in_order (of_run run) found ≡ in_order (of_run (run_of (no_counts 0) run.stored [] run.fenced [] [] [] [] [])) found
      go none = refl
      go (some p) = refl

  -- a store and a log go by the numbers and the last logs alone
  pub store_tables : (a : Range) → finding_by (of_run run) (Store a) ≡ finding_by (of_run (run_of run.counts [] run.logged [] [] [] [] [] [])) (Store a)
  unfolding finding_by
  store_tables a = refl

  pub log_tables : (a : Range) → finding_by (of_run run) (Log a) ≡ finding_by (of_run (run_of run.counts [] run.logged [] [] [] [] [] [])) (Log a)
  unfolding finding_by
  log_tables a = refl

  -- and a write-back by the last stores and write-backs of lines
  pub back_tables : (a : Range) →
      finding_by (of_run run) (WriteBack a) ≡
      finding_by (of_run (run_of (no_counts 0) [] [] [] [] [] [] run.dirtied run.backed)) (WriteBack a)
  unfolding finding_by
  back_tables a = refl
