-- Request 7: the events that the answer of a byte asked names.
use mathlib.Core.Path.{◌≡◌, refl, sym, ap, ap₂, ◌∙◌}
use mathlib.Core.Bool.{true, not, ◌&&◌, ◌||◌}
use mathlib.Core.Logic.{◌≢◌}
use mathlib.Core.List.{List}
use Prim.Native.Nat.{ℕ, ◌<◌}
use native.Mathlib.Omega.{arith}
use lib.Dec.{eqb, ltb, leb}
use borrow.Author.Tests.{ne_eqb, eq-eqb}
use native.Mathlib.Decide.{ℕ_discrete as dec_eq}
use Rattle.event.specs.declared.Interval.{Interval}
use Rattle.event.specs.declared.NamedInterval.{NamedInterval}
use Rattle.event.specs.declared.NamedInterval.TheVariants.{None, Open, Closed}
use Rattle.event.specs.declared.Record.{Record}
use Rattle.event.specs.Reply.{Reply, interval_values, named_values, without_events}
use Rattle.window.specs.Window.{window_bytes, line_of}
use Rattle.history.specs.History.{History, is, fences, writes_back_line}
use Rattle.history.specs.Interval.{epoch_at, last_store, back_after, fence_after, closing_fence, named_of}
use Rattle.history.specs.View.{View}
use Rattle.history.specs.Found.{at_risk, breaks}
use Rattle.history.specs.Given.{window_of}
use Rattle.history.proofs.Interval.{if_some_lem, closing_stored, named_none, named_stored, named_interval, last_store_stores, last_store_latest}
use Rattle.history.proofs.Meaning.Intervals.{FirstAfter, FirstBack, NamedIs, named_is}
use Rattle.history.proofs.Meaning.ByEpochs.{same_risk, same_breaks}
use Rattle.tables.specs.Run.{Run}
use Rattle.tables.specs.Table.{entry}
use Rattle.tables.specs.View.{since_store, of_run}
use Rattle.tables.proofs.SinceStore.{open_by, open_at}
use Rattle.events.proofs.Bare.{give_bare}
use Rattle.engine.specs.Answers.{Asked}
use Rattle.engine.specs.Call.{ask_of}
use Rattle.engine.specs.Reply.{asked_reply}
use Rattle.engine.proofs.Link.{same_closing}
use Rattle.claims.specs.After.{run_from, taken_from}
use Rattle.claims.specs.WhereClosed.{epochs_answered, NoneBetween, WhereClosed}
use Rattle.trace_interval.specs.TraceInterval.{trace_interval_of, trace_interval_reply}
use Rattle.claims.proofs.TraceExposed.{judge_refuses}
use Rattle.claims.proofs.TraceNamed.{stopped, answers, event_site}
use Rattle.claims.proofs.Answers.{tracked, viewed, byte_known}

-- the answer of a byte of the window, from its interval with its events
answered : (asked : ℕ) (given : List Record) (byte : ℕ) → byte < window_bytes (window_of asked) → {i : NamedInterval} →
    named_of (taken_from asked given) byte ≡ i → asked_reply (ask_of (run_from asked given) byte) ≡ Reply.values (named_values i)
answered asked given byte k e =
    ap asked_reply (byte_known asked given byte k) ∙ ap (λ (i : NamedInterval). Reply.values (named_values i)) e

-- dropping the events of an answer
answer_dropped : (i : NamedInterval) → epochs_answered (Reply.values (named_values i)) ≡ Reply.values (interval_values (without_events i))
answer_dropped None = refl
answer_dropped (Open opened store back) = refl
answer_dropped (Closed opened closed store back fence) = refl

module _ (h : History) (b : ℕ) (stored : last_store h b ≢ 0) where
  -- an open interval, and a closed one
  named_opens : closing_fence h b ≡ 0 → named_of h b ≡ Open (epoch_at h (last_store h b)) (last_store h b) (back_after h (line_of b) (last_store h b))
  named_opens z = named_stored h b stored ∙ (rw (sym (closing_stored h b stored) ∙ z))

  named_closes : closing_fence h b ≢ 0 →
      named_of h b ≡
      Closed (epoch_at h (last_store h b)) (epoch_at h (closing_fence h b)) (last_store h b) (back_after h (line_of b) (last_store h b)) (closing_fence h b)
  named_closes z =
      let some : fence_after h (line_of b) (last_store h b) ≢ 0 = rw (closing_stored h b stored) at z in
      rw (closing_stored h b stored) (named_stored h b stored ∙ if_some_lem (fence_after h (line_of b) (last_store h b)) _ _ some)

module _ (h : History) (b : ℕ) where
  -- an open interval names the first write-back after its store, or 0
  named_back : (opened store back : ℕ) → named_of h b ≡ Open opened store back → FirstBack h (line_of b) store back
  named_back opened store back e = go (named_is h b) e
    where
      go : {i : NamedInterval} → NamedIs h b i → i ≡ Open opened store back → FirstBack h (line_of b) store back
      go (NamedIs.unstored x) k = let z : ◌≡◌ {A = ℕ} 0 1 = cc in absurd (omega arith)
      go (NamedIs.still_open {s = s} {w = w} x y first free) k =
          let same : s ≡ store = cc in let it : w ≡ back = cc in rw (same, it) at first
      go (NamedIs.now_closed x y w f) k = let z : ◌≡◌ {A = ℕ} 0 1 = cc in absurd (omega arith)

  -- a closed one names that write-back and the first fence after it
  named_fence : (opened closed store back fence : ℕ) → named_of h b ≡ Closed opened closed store back fence →
      FirstAfter (is (writes_back_line (line_of b)) h) store back × FirstAfter (is fences h) back fence
  named_fence opened closed store back fence e = go (named_is h b) e
    where
      go : {i : NamedInterval} → NamedIs h b i → i ≡ Closed opened closed store back fence →
          FirstAfter (is (writes_back_line (line_of b)) h) store back × FirstAfter (is fences h) back fence
      go (NamedIs.unstored x) k = let z : ◌≡◌ {A = ℕ} 0 1 = cc in absurd (omega arith)
      go (NamedIs.still_open x y first free) k = let z : ◌≡◌ {A = ℕ} 0 1 = cc in absurd (omega arith)
      go (NamedIs.now_closed {s = s} {w = w} {f = f} x y back_is fence-is) k =
          let one : s ≡ store = cc in let two : w ≡ back = cc in let three : f ≡ fence = cc in
          (rw (one, two) at back_is, rw (two, three) at fence-is)

-- the test of a pair on two lines, by the entries of any run
order_entries_lem : (run : Run) (kept lost : ℕ) → entry run.stored kept ≢ 0 → line_of kept ≢ line_of lost →
    breaks (of_run run) kept lost ≡
    (not (eqb (entry run.stored lost) 0) &&
    (ltb (entry run.fenced lost) (entry run.stored lost) || ltb (entry run.stored kept) (entry run.fenced lost)))
order_entries_lem run kept lost k l =
    rw (ne_eqb (entry run.stored kept) 0 k, ne_eqb (line_of kept) (line_of lost) l) (go (dec_eq (entry run.stored lost) 0))
  where
    s : ℕ
    s = entry run.stored lost

    f : ℕ
    f = entry run.fenced lost

    m : ℕ
    m = entry run.stored kept

    go : Dec (s ≡ 0) →
        not (eqb s 0) && not (not (eqb (since_store s f) 0) && leb (since_store s f) m) ≡ (not (eqb s 0) && (ltb f s || ltb m f))
    go (yes z) = rw (eq-eqb s 0 z)
    go (no n) = rw (open_at s f m n)

pub where_closed : WhereClosed
where_closed =
    record {
      none = λ asked given byte k z. answered asked given byte k (named_none (taken_from asked given) byte z);
      opens = λ asked given byte k s z. answered asked given byte k (named_opens (taken_from asked given) byte s z);
      closes = λ asked given byte k s f. answered asked given byte k (named_closes (taken_from asked given) byte s f);
      store = λ h b s. (last_store_stores h b s, λ i k e. omega (arith, k, last_store_latest h b i e));
      back = λ h b opened store back e z. first_back_lem (named_back h b opened store back e) z;
      no_back = λ h b opened store e. no_back_lem (named_back h b opened store 0 e);
      fence = λ h b opened closed store back fence e. let x = named_fence h b opened closed store back fence e in
          (x.0.after, x.0.passes, x.0.before, x.1.after, x.1.passes, x.1.before);
      dropped = λ asked given byte k.
          ap (λ (a : Asked). epochs_answered (asked_reply a)) (byte_known asked given byte k) ∙ answer_dropped (named_of (taken_from asked given) byte) ∙
          ap (λ (i : Interval). Reply.values (interval_values i)) (named_interval (taken_from asked given) byte);
      risk = λ asked given b. ap (λ (v : View). at_risk v b) (viewed asked given) ∙ same_risk (taken_from asked given) (window_of asked) b;
      order = λ asked given kept lost.
          ap (λ (v : View). breaks v kept lost) (viewed asked given) ∙ same_breaks (taken_from asked given) (window_of asked) kept lost;
      risk_entries = λ asked given b.
          let t = tracked asked given in
          ap (λ (v : View). at_risk v b) (viewed asked given) ∙
          ap₂ (λ (s c : ℕ). not (eqb s 0) && eqb c 0) (sym (t.stored b)) (sym (same_closing t b)) ∙
          open_by (entry (run_from asked given).stored b) (entry (run_from asked given).fenced b);
      order_entries = order_entries_lem;
      events = give_bare;
      traces = λ trace area totals byte e. answers trace byte area totals e;
      sites = event_site;
      refused = λ trace area byte. judge_refuses trace area (trace_interval_reply (trace_interval_of trace byte)) (λ x n. stopped trace byte);
    }
  where
    first_back_lem : {h : History} {l s w : ℕ} → FirstBack h l s w → w ≢ 0 →
        (s < w) × (is (writes_back_line l) h w ≡ true) × NoneBetween (λ i. is (writes_back_line l) h i ≡ true) s w
    first_back_lem (FirstBack.none_yet x) z = absurd (z refl)
    first_back_lem (FirstBack.first_is x) z = (x.after, x.passes, x.before)

    no_back_lem : {h : History} {l s : ℕ} → FirstBack h l s 0 → (i : ℕ) → s < i → is (writes_back_line l) h i ≡ true → ⊥
    no_back_lem (FirstBack.none_yet x) = x
    no_back_lem (FirstBack.first_is x) = λ i k e. omega (arith, x.after)
