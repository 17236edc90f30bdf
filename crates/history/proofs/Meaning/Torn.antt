-- Torn stores, in plain words.
use mathlib.Core.Path.{◌≡◌, refl, sym, subst, subst₂}
use mathlib.Core.Bool.{Bool, true, false, ◌&&◌}
use mathlib.Core.Logic.{◌≢◌, ◌↔◌}
use Prim.Native.Nat.{ℕ, ◌≤◌, ◌<◌}
use native.Mathlib.Nat.{le_refl, le_trans}
use native.Mathlib.Omega.{arith}
use native.Mathlib.Decide.{dec_lt}
use lib.ListN.{length}
use lib.Dec.{ltb}
use borrow.Author.Tests.{eq-eqb, ne_eqb, ltb-true, lt-ltb}
use Rattle.window.specs.Window.{line_of, word_of}
use Rattle.window.proofs.Meaning.{word_in_line}
use Rattle.event.proofs.Bools.{contradiction, and_left, and_right, both, not_of}
use Rattle.history.specs.Count.{first}
use Rattle.history.specs.History.{History, is, stores_byte, stores_line}
use Rattle.history.specs.Interval.{last_store}
use Rattle.history.specs.Image.{Image, pieces, Survives, Torn, Allowed}
use Rattle.history.specs.Broken.{Keeps, PersistedBroken, OrderedBroken, no_word, one_store, other_words, meant, meant_pair}
use Rattle.history.proofs.Count.{first_is_lem, first_earliest}
use Rattle.history.proofs.History.{is_number}
use Rattle.history.proofs.Image.{pieces_mono, risk_allowed, risk_loses, broken_risk, OneLine, PairRisk, lost_word, pair_allowed, pair_lost, pair_torn, pair_kept, pair_broken, broken_pair_lem}
use Rattle.history.proofs.Interval.{last_store_within}

module _ (h : History) (i : Image) where
  -- nothing is kept of a piece younger than one that does not survive whole
  pub younger_lost : {s t b : ℕ} → is (stores_line (line_of b)) h s ≡ true → (Survives h i (line_of b) s → ⊥) → s < t → Keeps h i t b → ⊥
  younger_lost {b = b} piece gone k (Keeps.whole survives) = gone (le_trans (pieces_mono h (line_of b) (omega arith)) survives)
  younger_lost piece gone k (Keeps.word torn chosen) = gone (torn.oldest _ k piece)

  -- so one piece of a line is torn at most
  pub one_torn : {l s t : ℕ} → Torn h i l s → Torn h i l t → s ≡ t
  one_torn {l} {s} {t} x y = go (dec_lt s t) (dec_lt t s)
    where
      go : Dec (s < t) → Dec (t < s) → s ≡ t
      go (yes k) d = absurd (x.not_whole (y.oldest s k x.piece))
      go (no k) (yes j) = absurd (y.not_whole (x.oldest t j y.piece))
      go (no k) (no j) = omega arith

  -- and one is wherever a piece by the moment does not survive whole
  pub some_torn : (l s : ℕ) → is (stores_line l) h s ≡ true → s ≤ i.moment → (Survives h i l s → ⊥) → (t : ℕ) × (t ≤ s) × Torn h i l t
  some_torn l s piece by gone =
      let least = first_earliest part 0 s s (both piece (lt-ltb (i.survivors l) (pieces h l s) (omega (arith, gone)))) (is_number (stores_line l) h s piece).above (le_refl s) in
      let t = first_is_lem part 0 s least.there in
      let r = first part 0 s in (
        r,
        least.early,
        record {
          piece = and_left (is (stores_line l) h r) (ltb (i.survivors l) (pieces h l r)) t.passes;
          by = omega (arith, least.early);
          not_whole = λ k. omega (arith, ltb-true (i.survivors l) (pieces h l r) (and_right (is (stores_line l) h r) (ltb (i.survivors l) (pieces h l r)) t.passes), k);
          oldest = λ r k p. older r k (omega (arith, k, least.early)) p (dec_lt (i.survivors l) (pieces h l r));
        },
      )
    where
      part : ℕ → Bool
      part n = is (stores_line l) h n && ltb (i.survivors l) (pieces h l n)

      older : (r : ℕ) → r < first part 0 s → r ≤ s → is (stores_line l) h r ≡ true → Dec (i.survivors l < pieces h l r) → Survives h i l r
      older r k m p (yes j) = absurd (omega (arith, k, (first_earliest part 0 s r (both p (lt-ltb _ _ j)) (is_number (stores_line l) h r p).above m).early))
      older r k m p (no j) = omega arith

  -- of the torn piece exactly the chosen words are kept
  pub torn_keeps : {b s : ℕ} → Torn h i (line_of b) s → Keeps h i s b ↔ (i.words (line_of b) (word_of b) ≡ true)
  torn_keeps {b} {s} x = (chosen, Keeps.word x)
    where
      chosen : Keeps h i s b → i.words (line_of b) (word_of b) ≡ true
      chosen (Keeps.whole survives) = absurd (x.not_whole survives)
      chosen (Keeps.word torn k) = k

  -- bytes of one word that one store set are kept or lost together
  pub one_word : {s : ℕ} (b c : ℕ) → word_of b ≡ word_of c → Keeps h i s b → Keeps h i s c
  one_word b c e (Keeps.whole survives) = Keeps.whole (rw (word_in_line b c e) at survives)
  one_word b c e (Keeps.word torn chosen) = Keeps.word (rw (word_in_line b c e) at torn) (rw (word_in_line b c e, e) at chosen)

  -- so a store whose bytes on a line lie in one word cannot be torn there
  pub not_torn : (l s w : ℕ) → ((b : ℕ) → is (stores_byte b) h s ≡ true → line_of b ≡ l → word_of b ≡ w) →
      (b c : ℕ) → is (stores_byte b) h s ≡ true → line_of b ≡ l → is (stores_byte c) h s ≡ true → line_of c ≡ l → Keeps h i s b → Keeps h i s c
  not_torn l s w one b c sb lb sc lc keeps = one_word b c (rw (one b sb lb, one c sc lc)) keeps

-- words are independent: an allowed image may have any other choice of them, and then keeps of the piece that is torn exactly these
abbrev pub with_words : Image → (ℕ → ℕ → Bool) → Image
with_words i words = record { moment = i.moment; survivors = i.survivors; words = words }

pub words_allowed : (h : History) (i : Image) (words : ℕ → ℕ → Bool) → Allowed h i → Allowed h (with_words i words)
words_allowed h i words a = record { happened = a.happened; least = a.least; most = a.most }

pub words_independent : (h : History) (i : Image) (words : ℕ → ℕ → Bool) {b s : ℕ} → Torn h i (line_of b) s → Keeps h (with_words i words) s b ↔ (words (line_of b) (word_of b) ≡ true)
words_independent h i words x = torn_keeps h (with_words i words) (record { piece = x.piece; by = x.by; not_whole = x.not_whole; oldest = x.oldest })

-- an image as they were before stores could be torn: no word is chosen. It is allowed as before (`words_allowed`), and keeps the
-- pieces that survive whole
abbrev pub Untorn : Image → Type 0
Untorn i = (l w : ℕ) → i.words l w ≡ false

pub untorn_keeps : (h : History) (i : Image) → Untorn i → {s b : ℕ} → Keeps h i s b ↔ Survives h i (line_of b) s
untorn_keeps h i none {s} {b} = (survives, Keeps.whole)
  where
    survives : Keeps h i s b → Survives h i (line_of b) s
    survives (Keeps.whole k) = k
    survives (Keeps.word torn chosen) = absurd (contradiction chosen (none (line_of b) (word_of b)))

module _ (h : History) where
  -- a persisted, or an outermost end, is broken at the bytes at which it was: an image without torn words breaks it too
  pub persisted_as_before : (n b : ℕ) → n ≤ length h → PersistedBroken h n b → (x : PersistedBroken h n b) × Untorn x.image
  persisted_as_before n b k x =
      let risk = broken_risk h b n x in
      (record { image = meant h n b; allowed = risk_allowed h no_word n b risk k; moment = refl; loses = risk_loses h no_word n b risk refl }, λ l w. refl)

  -- and so is an ordered at every pair that no one store set on one line
  pub pair_as_before : (n kept lost : ℕ) → length h ≤ n → one_store h kept lost ≡ false → OrderedBroken h n kept lost → (x : OrderedBroken h n kept lost) × Untorn x.image
  pair_as_before n kept lost k two x =
      let risk = broken_pair_lem h x in (
        record {
          image = meant_pair h kept lost;
          allowed = pair_allowed h risk;
          moment = omega (arith, k, last_store_within h kept);
          keeps = pair_kept h risk;
          loses = pair_lost h risk;
        },
        λ l w. rw two,
      )

  -- where one store set both bytes on one line, the image meant keeps of its bytes there exactly those outside the lost byte's word
  pub every_other_word : (kept lost c : ℕ) → last_store h lost ≢ 0 → line_of kept ≡ line_of lost → last_store h kept ≡ last_store h lost → line_of c ≡ line_of lost →
      Keeps h (meant_pair h kept lost) (last_store h lost) c ↔ (word_of c ≢ word_of lost)
  every_other_word kept lost c stored line store here = (λ k same. contradiction ((torn_keeps h image piece).0 k) (gone same), λ other. (torn_keeps h image piece).1 (chosen other))
    where
      image : Image
      image = meant_pair h kept lost

      piece : Torn h image (line_of c) (last_store h lost)
      piece = subst (λ (l : ℕ). Torn h image l (last_store h lost)) (sym here) (pair_torn h kept lost stored store)

      gone : word_of c ≡ word_of lost → other_words h kept lost (line_of c) (word_of c) ≡ false
      gone same = subst₂ (λ (l w : ℕ). other_words h kept lost l w ≡ false) (sym here) (sym same) (lost_word h kept lost)

      chosen : word_of c ≢ word_of lost → other_words h kept lost (line_of c) (word_of c) ≡ true
      chosen other = both (both (both (eq-eqb _ _ line) (eq-eqb _ _ store)) (eq-eqb _ _ here)) (not_of (ne_eqb _ _ other))

  -- at a pair that one store set on one line no image without torn words breaks it
  pub whole_before : (n kept lost : ℕ) → line_of kept ≡ line_of lost → last_store h kept ≡ last_store h lost → (x : OrderedBroken h n kept lost) → Untorn x.image → ⊥
  whole_before n kept lost line store x none =
      x.loses.loses (Keeps.whole (rw (line, store) at ((untorn_keeps h x.image none).0 x.keeps.keeps)))

  -- now one does, exactly if the bytes lie in different words
  pub torn_now : (n kept lost : ℕ) → length h ≤ n → line_of kept ≡ line_of lost → last_store h kept ≡ last_store h lost → last_store h kept ≢ 0 →
      OrderedBroken h n kept lost ↔ (word_of kept ≢ word_of lost)
  torn_now n kept lost k line store stored = (λ x. apart ((broken_pair_lem h x).together line), λ d. pair_broken h n k (risk d))
    where
      apart : OneLine h kept lost → word_of kept ≢ word_of lost
      apart (OneLine.older j) = absurd (omega arith)
      apart (OneLine.torn same d) = d

      risk : word_of kept ≢ word_of lost → PairRisk h kept lost
      risk d = record { kept_stored = stored; lost_stored = λ z. stored (rw store z); together = λ e. OneLine.torn store d; apart = λ f. absurd (f line) }
