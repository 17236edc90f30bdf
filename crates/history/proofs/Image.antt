-- Crash images: which bytes an allowed image can lose, and the image meant.
use mathlib.Core.Path.{◌≡◌, refl, sym, subst, subst₂}
use mathlib.Core.Bool.{Bool, true, false, ◌&&◌}
use mathlib.Core.Logic.{◌≢◌}
use Prim.Native.Nat.{ℕ, pred, min, ◌≤◌, ◌<◌}
use native.Mathlib.Omega.{arith}
use native.Mathlib.Nat.{le_refl}
use native.Mathlib.Decide.{dec_le, dec_lt, ℕ_discrete as dec_eq}
use lib.Dec.{eqb}
use lib.ListN.{length}
use borrow.Author.Tests.{not-true, eq-eqb, ne_eqb}
use Rattle.window.specs.Window.{line_of, word_of}
use Rattle.event.proofs.Bools.{contradiction, fails, and_right, both, not_of}
use Rattle.history.specs.History.{History, is, stores_line}
use Rattle.history.specs.Interval.{last_store}
use Rattle.history.specs.Image.{Image, pieces, Forced, Survives, Torn, Allowed}
use Rattle.history.specs.Broken.{Keeps, KeptIn, LostIn, PersistedBroken, OrderedBroken, meant_with, no_word, other_words, one_store, meant, meant_pair}
use Rattle.history.proofs.Count.{count_mono, count_less}
use Rattle.history.proofs.Interval.{last_store_on_line, last_store_within}

module _ (h : History) where
  -- a line's pieces grow with the moment
  pub pieces_mono : (l : ℕ) {m n : ℕ} → m ≤ n → pieces h l m ≤ pieces h l n
  unfolding pieces
  pieces_mono l {m} {n} k = count_mono (is (stores_line l) h) m n k

  -- and by one at each store to the line
  pub pieces_less : (l : ℕ) {m s : ℕ} → m < s → is (stores_line l) h s ≡ true → pieces h l m < pieces h l s
  unfolding pieces
  pieces_less l {m} {s} k t = count_less (is (stores_line l) h) m s k t

  -- what is forced for a store is forced for an older one, and by a later moment
  pub forced_older : {l s t m n : ℕ} → Forced h l s m → t ≤ s → m ≤ n → Forced h l t n
  forced_older x k j =
      record { back = x.back; fence = x.fence; after = omega (arith, x.after); is_back = x.is_back; later = x.later; is_fence = x.is_fence; by = omega (arith, x.by) }

  -- a forced store has happened
  pub forced_happened : {l s m : ℕ} → Forced h l s m → s < m
  forced_happened x = omega (arith, x.after, x.later, x.by)

  -- the byte's last store may be lost at moment m
  pub record Risk (b m : ℕ) : Type 0 where
    pub stored : last_store h b ≢ 0
    pub free : Forced h (line_of b) (last_store h b) m → ⊥

  -- an allowed image that loses a byte shows that its last store is not forced
  pub loses_risk : {b : ℕ} {i : Image} → Allowed h i → LostIn h i b → Risk b i.moment
  loses_risk {b} {i} a x = record { stored = x.stored; free = λ f. x.loses (Keeps.whole (a.least (line_of b) (last_store h b) (last_store_on_line h b x.stored) f)) }

  -- an allowed image that keeps a byte has a moment no earlier than the byte's last store
  kept_happened : {b : ℕ} {i : Image} → Allowed h i → KeptIn h i b → last_store h b ≤ i.moment
  kept_happened {b} {i} a x = go x.keeps (dec_le (last_store h b) i.moment)
    where
      go : Keeps h i (last_store h b) b → Dec (last_store h b ≤ i.moment) → last_store h b ≤ i.moment
      go keeps (yes k) = k
      go (Keeps.word piece chosen) (no k) = piece.by
      go (Keeps.whole survives) (no k) =
          let most : i.survivors (line_of b) ≤ pieces h (line_of b) i.moment = a.most (line_of b) in
          absurd (omega (arith, survives, pieces_less (line_of b) {m = i.moment} (omega arith) (last_store_on_line h b x.stored)))

  -- the image meant, whatever words it keeps, on the lost byte's line and on the others
  module _ (words : ℕ → ℕ → Bool) (m b : ℕ) where
    abbrev image : Image
    image = meant_with words h m b

    meant_here : image.survivors (line_of b) ≡ pieces h (line_of b) (min m (pred (last_store h b)))
    meant_here = rw (eq-eqb (line_of b) (line_of b) refl)

    meant_there : (l : ℕ) → (l ≡ line_of b → ⊥) → image.survivors l ≡ pieces h l m
    meant_there l f = rw (ne_eqb l (line_of b) f)

    -- from the lost byte's last store on no store to its line survives whole
    meant_gone : last_store h b ≢ 0 → {s : ℕ} → last_store h b ≤ s → Survives h image (line_of b) s → ⊥
    meant_gone stored j k =
        omega (
          arith,
          rw meant_here at k,
          pieces_mono (line_of b) j,
          pieces_less (line_of b) {m = min m (pred (last_store h b))} (omega (arith, stored)) (last_store_on_line h b stored),
        )

    -- and older ones do
    meant_older : {s : ℕ} → s ≤ m → s < last_store h b → Survives h image (line_of b) s
    meant_older k j = rw meant_here (pieces_mono (line_of b) (omega arith))

    module _ (x : Risk b m) where
      risk_most : (l : ℕ) → image.survivors l ≤ pieces h l m
      risk_most l = go (dec_eq l (line_of b))
        where
          go : Dec (l ≡ line_of b) → image.survivors l ≤ pieces h l m
          go (yes e) = rw e (rw meant_here (pieces_mono (line_of b) (omega arith)))
          go (no f) = rw (meant_there l f) (le_refl _)

      -- a store forced by m on the lost byte's line is older than the lost store
      risk_older : {s : ℕ} → Forced h (line_of b) s m → s < last_store h b
      risk_older {s} f = go (dec_le (last_store h b) s)
        where
          go : Dec (last_store h b ≤ s) → s < last_store h b
          go (yes k) = absurd (x.free (forced_older f k (le_refl m)))
          go (no k) = omega arith

      risk_least : (l s : ℕ) → is (stores_line l) h s ≡ true → Forced h l s m → Survives h image l s
      risk_least l s t f = go (dec_eq l (line_of b))
        where
          go : Dec (l ≡ line_of b) → Survives h image l s
          go (yes e) = rw e (meant_older (omega (arith, forced_happened f)) (risk_older (rw e at f)))
          go (no k) = rw (meant_there l k) (pieces_mono l (omega (arith, forced_happened f)))

      -- it is allowed
      pub risk_allowed : m ≤ length h → Allowed h image
      risk_allowed k = record { happened = k; least = risk_least; most = risk_most }

      -- and loses the byte where the byte's word is none of those that it keeps
      pub risk_loses : words (line_of b) (word_of b) ≡ false → LostIn h image b
      risk_loses left = record { stored = x.stored; loses = gone }
        where
          gone : Keeps h image (last_store h b) b → ⊥
          gone (Keeps.whole survives) = meant_gone x.stored (le_refl _) survives
          gone (Keeps.word piece chosen) = contradiction chosen left

  -- a persisted as event n is broken at exactly the bytes whose last store is not forced by n
  pub risk_broken : (b n : ℕ) → n ≤ length h → Risk b n → PersistedBroken h n b
  risk_broken b n k x = record { image = meant h n b; allowed = risk_allowed no_word n b x k; moment = refl; loses = risk_loses no_word n b x refl }

  pub broken_risk : (b n : ℕ) → PersistedBroken h n b → Risk b n
  broken_risk b n x = subst (λ (m : ℕ). Risk b m) x.moment (loses_risk x.allowed x.loses)

  -- on one line a crash may keep one byte and lose the other: the kept store is the older, or one store set both in different words
  pub data OneLine (kept lost : ℕ) : Type 0 where
    older : last_store h kept < last_store h lost → OneLine kept lost
    torn : last_store h kept ≡ last_store h lost → word_of kept ≢ word_of lost → OneLine kept lost

  -- a crash may keep one byte and lose the other: on one line as above; on two, the lost store is not forced by the kept one
  pub record PairRisk (kept lost : ℕ) : Type 0 where
    pub kept_stored : last_store h kept ≢ 0
    pub lost_stored : last_store h lost ≢ 0
    pub together : line_of kept ≡ line_of lost → OneLine kept lost
    pub apart : (line_of kept ≡ line_of lost → ⊥) → Forced h (line_of lost) (last_store h lost) (last_store h kept) → ⊥

  pub pair_risk : {kept lost : ℕ} → PairRisk kept lost → Risk lost (last_store h kept)
  pair_risk {kept} {lost} x = record { stored = x.lost_stored; free = free (dec_eq (line_of kept) (line_of lost)) }
    where
      unforced : OneLine kept lost → Forced h (line_of lost) (last_store h lost) (last_store h kept) → ⊥
      unforced (OneLine.older k) f = omega (arith, forced_happened f)
      unforced (OneLine.torn k d) f = omega (arith, forced_happened f)

      free : Dec (line_of kept ≡ line_of lost) → Forced h (line_of lost) (last_store h lost) (last_store h kept) → ⊥
      free (yes e) f = unforced (x.together e) f
      free (no k) f = x.apart k f

  -- the other words have the kept byte's, where one store set both bytes in different words
  kept_word : (kept lost : ℕ) → line_of kept ≡ line_of lost → last_store h kept ≡ last_store h lost → word_of kept ≢ word_of lost → other_words h kept lost (line_of kept) (word_of kept) ≡ true
  kept_word kept lost line store word = both (both (both (eq-eqb _ _ line) (eq-eqb _ _ store)) (eq-eqb _ _ line)) (not_of (ne_eqb _ _ word))

  -- and never the lost byte's
  pub lost_word : (kept lost : ℕ) → other_words h kept lost (line_of lost) (word_of lost) ≡ false
  lost_word kept lost =
      fails _ (λ e. contradiction (eq-eqb (word_of lost) (word_of lost) refl) (not-true (eqb (word_of lost) (word_of lost)) (and_right (one_store h kept lost && eqb (line_of lost) (line_of lost)) _ e)))

  -- the image meant is allowed, loses the lost byte and keeps the kept one
  pub pair_allowed : {kept lost : ℕ} → PairRisk kept lost → Allowed h (meant_pair h kept lost)
  pair_allowed {kept} {lost} x = risk_allowed (other_words h kept lost) (last_store h kept) lost (pair_risk x) (last_store_within h kept)

  pub pair_lost : {kept lost : ℕ} → PairRisk kept lost → LostIn h (meant_pair h kept lost) lost
  pair_lost {kept} {lost} x = risk_loses (other_words h kept lost) (last_store h kept) lost (pair_risk x) (lost_word kept lost)

  -- a store that set both bytes is the one that is torn
  pub pair_torn : (kept lost : ℕ) → last_store h lost ≢ 0 → last_store h kept ≡ last_store h lost → Torn h (meant_pair h kept lost) (line_of lost) (last_store h lost)
  pair_torn kept lost stored same =
      record {
        piece = last_store_on_line h lost stored;
        by = omega arith;
        not_whole = meant_gone (other_words h kept lost) (last_store h kept) lost stored (le_refl _);
        oldest = λ t k p. meant_older (other_words h kept lost) (last_store h kept) lost (omega arith) (omega arith);
      }

  pub pair_kept : {kept lost : ℕ} → PairRisk kept lost → KeptIn h (meant_pair h kept lost) kept
  pair_kept {kept} {lost} x = record { stored = x.kept_stored; keeps = keeps (dec_eq (line_of kept) (line_of lost)) }
    where
      words : ℕ → ℕ → Bool
      words = other_words h kept lost

      m : ℕ
      m = last_store h kept

      one : line_of kept ≡ line_of lost → OneLine kept lost → Keeps h (meant_pair h kept lost) m kept
      one e (OneLine.older k) = Keeps.whole (rw e (meant_older words m lost (le_refl m) k))
      one e (OneLine.torn same word) = Keeps.word (subst₂ (λ (l s : ℕ). Torn h (meant_pair h kept lost) l s) (sym e) (sym same) (pair_torn kept lost x.lost_stored same)) (kept_word kept lost e same word)

      keeps : Dec (line_of kept ≡ line_of lost) → Keeps h (meant_pair h kept lost) m kept
      keeps (yes e) = one e (x.together e)
      keeps (no k) = Keeps.whole (rw (meant_there words m lost (line_of kept) k) (le_refl _))

  -- an ordered is broken at exactly these pairs
  pub pair_broken : {kept lost : ℕ} (n : ℕ) → length h ≤ n → PairRisk kept lost → OrderedBroken h n kept lost
  pair_broken {kept} {lost} n k x =
      record { image = meant_pair h kept lost; allowed = pair_allowed x; moment = omega (arith, last_store_within h kept); keeps = pair_kept x; loses = pair_lost x }

  pub broken_pair_lem : {kept lost n : ℕ} → OrderedBroken h n kept lost → PairRisk kept lost
  broken_pair_lem {kept} {lost} {n} x =
      record {
        kept_stored = x.keeps.stored;
        lost_stored = x.loses.stored;
        together = λ e. together e x.keeps.keeps (dec_lt (last_store h kept) (last_store h lost)) (dec_eq (last_store h kept) (last_store h lost));
        apart = λ k f. (loses_risk x.allowed x.loses).free (forced_older f (le_refl _) (kept_happened x.allowed x.keeps));
      }
    where
      i : Image
      i = x.image

      together : line_of kept ≡ line_of lost → Keeps h i (last_store h kept) kept → Dec (last_store h kept < last_store h lost) → Dec (last_store h kept ≡ last_store h lost) → OneLine kept lost
      together e keeps (yes k) d = OneLine.older k
      together e (Keeps.whole survives) (no k) d =
          absurd (x.loses.loses (Keeps.whole (omega (arith, rw e at survives, pieces_mono (line_of lost) {m = last_store h lost} {n = last_store h kept} (omega arith)))))
      together e (Keeps.word piece chosen) (no k) (yes same) = OneLine.torn same (λ word. x.loses.loses (Keeps.word (rw (e, same) at piece) (rw (e, word) at chosen)))
      together e (Keeps.word piece chosen) (no k) (no d) =
          absurd (x.loses.loses (Keeps.whole (rw e at (piece.oldest (last_store h lost) (omega arith) (rw e (last_store_on_line h lost x.loses.stored))))))
