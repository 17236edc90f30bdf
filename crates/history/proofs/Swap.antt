-- Two neighbours that changed places: every event of the one history is an event of the other, under the number that the exchange gives.
use mathlib.Core.Path.{◌≡◌, refl, sym, ap, ◌∙◌, fun_ext}
use mathlib.Core.Bool.{Bool, true, false, ◌||◌}
use mathlib.Core.List.{◌∷◌}
use mathlib.Core.Logic.{◌≢◌}
use Prim.Native.Nat.{ℕ, suc, ◌≤◌, ◌<◌}
use native.Mathlib.Omega.{arith}
use native.Mathlib.Decide.{dec_lt, ℕ_discrete as dec_eq}
use lib.ListN.{length}
use Rattle.event.specs.declared.Event.{Event}
use Rattle.event.specs.declared.Event.TheVariants.{Store, WriteBack, Fence, Begin, Log, End, Persisted, Ordered}
use Rattle.event.specs.declared.Record.{Record}
use Rattle.event.proofs.Bools.{contradiction}
use Rattle.history.specs.Count.{last, first}
use Rattle.history.specs.History.{History, is, stores, writes_back, fences, begins, logs, ends}
use Rattle.history.specs.Swap.{exchanged}
use Rattle.history.proofs.Count.{first_is_lem, first_earliest}
use Rattle.history.proofs.History.{is_newest, is_older, is_number, is_last, is_latest, is_some}
use Rattle.history.proofs.Exchange.{Place, place, twice, less, stays, lower_moves, upper_moves, zero_stays}

-- neither a fence nor a begin, an end or a log
pub record Quiet (e : Event) : Type 0 where
  pub no_fence : fences e ≡ false
  pub no_begin : begins e ≡ false
  pub no_end : ends e ≡ false
  pub no_log : logs e ≡ false

pub quiet : (e : Event) → stores e || writes_back e ≡ true → Quiet e
quiet (Store a) t = record { no_fence = refl; no_begin = refl; no_end = refl; no_log = refl }
quiet (WriteBack a) t = record { no_fence = refl; no_begin = refl; no_end = refl; no_log = refl }
quiet Fence t = absurd (contradiction t refl)
quiet Begin t = absurd (contradiction t refl)
quiet (Log a) t = absurd (contradiction t refl)
quiet End t = absurd (contradiction t refl)
quiet (Persisted a) t = absurd (contradiction t refl)
quiet (Ordered a b) t = absurd (contradiction t refl)

-- two histories that differ in the order of a and b, which follow these older events
pub data Swapped (a b : Record) (older : History) : History → History → Type 0 where
  two : Swapped a b older (b ∷ a ∷ older) (a ∷ b ∷ older)
  later : {h k : History} (r : Record) → Swapped a b older h k → Swapped a b older (r ∷ h) (r ∷ k)

-- the same the other way round
pub flip : {a b : Record} {older h k : History} → Swapped a b older h k → Swapped b a older k h
flip Swapped.two = Swapped.two
flip (Swapped.later r s) = Swapped.later r (flip s)

module _ (a b : Record) (older : History) where
  -- the number of a, and where the exchange takes a number
  abbrev i : ℕ
  i = suc (length older)

  abbrev ex : ℕ → ℕ
  ex = exchanged (suc (length older))

  pub same_length : {h k : History} → Swapped a b older h k → length k ≡ length h
  same_length Swapped.two = refl
  same_length (Swapped.later r s) = ap suc (same_length s)

  pub both_within : {h k : History} → Swapped a b older h k → suc i ≤ length h
  both_within Swapped.two = omega arith
  both_within (Swapped.later r s) = omega (arith, both_within s)

  module _ (p : Event → Bool) where
    pub is_lower : {h k : History} → Swapped a b older h k → is p h i ≡ p a.event
    is_lower Swapped.two = is_older p b (a ∷ older) i (λ e. omega arith) ∙ is_newest p a older
    is_lower (Swapped.later {h = h} r s) = is_older p r h i (λ e. omega (arith, both_within s, e)) ∙ is_lower s

    pub is_upper : {h k : History} → Swapped a b older h k → is p h (suc i) ≡ p b.event
    is_upper Swapped.two = is_newest p b (a ∷ older)
    is_upper (Swapped.later {h = h} r s) = is_older p r h (suc i) (λ e. omega (arith, both_within s, e)) ∙ is_upper s

    -- every event of the one is an event of the other, at the number that the exchange gives
    pub moved : {h k : History} → Swapped a b older h k → (n : ℕ) → is p k (ex n) ≡ is p h n
    moved Swapped.two n = go (place i n)
      where
        go : {y : ℕ} → Place i n y → is p (a ∷ b ∷ older) y ≡ is p (b ∷ a ∷ older) n
        go (Place.lower e f) = rw (e, f) (is_newest p a (b ∷ older) ∙ sym (is_older p b (a ∷ older) i (λ e. omega arith) ∙ is_newest p a older))
        go (Place.upper e f) = rw (e, f) (is_older p a (b ∷ older) i (λ e. omega arith) ∙ is_newest p b older ∙ sym (is_newest p b (a ∷ older)))
        go (Place.other c d f) =
            rw f
            (is_older p a (b ∷ older) n d ∙ is_older p b older n c ∙
            sym (is_older p b (a ∷ older) n d ∙ is_older p a older n c))
    moved (Swapped.later {h = h} {k = k} r s) n = go (dec_eq n (suc (length h))) (moved s n)
      where
        far : exchanged i (suc (length h)) ≡ suc (length h)
        far = stays i (λ e. omega (arith, both_within s, e)) (λ e. omega (arith, both_within s, e))

        go : Dec (n ≡ suc (length h)) → is p k (ex n) ≡ is p h n → is p (r ∷ k) (ex n) ≡ is p (r ∷ h) n
        go (yes e) rest = rw (e, far) (ap (is p (r ∷ k)) (ap suc (sym (same_length s))) ∙ is_newest p r k ∙ sym (is_newest p r h))
        go (no d) rest =
            is_older p r k (ex n) (λ e. d (sym (twice i n) ∙ ap ex (e ∙ ap suc (same_length s)) ∙ far)) ∙ rest ∙
            sym (is_older p r h n d)

    pub moved_back : {h k : History} → Swapped a b older h k → (n : ℕ) → is p k n ≡ is p h (ex n)
    moved_back {k = k} s n = ap (is p k) (sym (twice i n)) ∙ moved s (ex n)

    -- a test that not both pass: the last one that passes is the same event
    pub last_moved : {h k : History} → Swapped a b older h k → (p a.event ≡ true → p b.event ≡ true → ⊥) → last (is p k) (length k) ≡ ex (last (is p h) (length h))
    last_moved {h} {k} s one = go (dec_eq L 0) (dec_eq K 0) (dec_lt (ex L) K)
      where
        L : ℕ
        L = last (is p h) (length h)

        K : ℕ
        K = last (is p k) (length k)

        passes : L ≢ 0 → is p k (ex L) ≡ true
        passes f = moved s L ∙ is_last p h f

        back : K ≢ 0 → is p h (ex K) ≡ true
        back f = sym (moved_back s K) ∙ is_last p k f

        apart : L ≢ 0 → K ≢ 0 → ex L ≡ i → K ≡ suc i → ⊥
        apart f g e j =
            let low : L ≡ suc i = sym (twice i L) ∙ ap ex e ∙ lower_moves i in
            let high : ex K ≡ i = ap ex j ∙ upper_moves i in
            one (sym (is_lower s) ∙ (rw high at (back g))) (sym (is_upper s) ∙ (rw low at (is_last p h f)))

        go : Dec (L ≡ 0) → Dec (K ≡ 0) → Dec (ex L < K) → K ≡ ex L
        go (yes z) (yes y) d = y ∙ sym (ap ex z ∙ zero_stays (length older))
        go (yes z) (no g) d = absurd (is_some p h (ex K) (back g) z)
        go (no f) (yes y) d = absurd (is_some p k (ex L) (passes f) y)
        go (no f) (no g) (yes c) = absurd (omega (arith, less i c (apart f g), twice i L, is_latest p h (ex K) (back g)))
        go (no f) (no g) (no c) = omega (arith, is_latest p k (ex L) (passes f))

    -- the first one after an event that passes is the same event, unless that event is one of the two and the other passes
    pub first_moved : {h k : History} → Swapped a b older h k → (p a.event ≡ true → p b.event ≡ true → ⊥) → (s : ℕ) →
        (s ≡ i → p b.event ≡ false) → (s ≡ suc i → p a.event ≡ false) → first (is p k) (ex s) (length k) ≡ ex (first (is p h) s (length h))
    first_moved {h} {k} w one s notUpper notLower = go (dec_eq F 0) (dec_eq G 0) (dec_lt G (ex F))
      where
        F : ℕ
        F = first (is p h) s (length h)

        G : ℕ
        G = first (is p k) (ex s) (length k)

        -- what passes in one passes in the other, and after the same event
        forth : (n : ℕ) → is p h n ≡ true → s < n → ex s < ex n
        forth n t c = less i c (λ e f. contradiction (sym (is_upper w) ∙ (rw f at t)) (notUpper e))

        back : (n : ℕ) → is p k n ≡ true → ex s < n → s < ex n
        back n t c =
            let d : ex (ex s) < ex n = less i c (λ e f. contradiction (sym (is_lower w) ∙ (rw (ap ex f ∙ upper_moves i) at (sym (moved_back w n) ∙ t))) (notLower (sym (twice i s) ∙ ap ex e ∙ lower_moves i))) in
            omega (arith, twice i s)

        there : F ≢ 0 → is p k (ex F) ≡ true
        there f = moved w F ∙ (first_is_lem (is p h) s (length h) f).passes

        here : G ≢ 0 → is p h (ex G) ≡ true
        here g = sym (moved_back w G) ∙ (first_is_lem (is p k) (ex s) (length k) g).passes

        early : (g : G ≢ 0) → (F ≢ 0) × (F ≤ ex G)
        early g =
            let e = first_earliest (is p h) s (length h) (ex G) (here g) (back G (first_is_lem (is p k) (ex s) (length k) g).passes (first_is_lem (is p k) (ex s) (length k) g).after) (is_number p h (ex G) (here g)).within in
            (e.there, e.early)

        late : (f : F ≢ 0) → (G ≢ 0) × (G ≤ ex F)
        late f =
            let e = first_earliest (is p k) (ex s) (length k) (ex F) (there f) (forth F (first_is_lem (is p h) s (length h) f).passes (first_is_lem (is p h) s (length h) f).after) (is_number p k (ex F) (there f)).within in
            (e.there, e.early)

        apart : F ≢ 0 → G ≢ 0 → G ≡ i → ex F ≡ suc i → ⊥
        apart f g e j =
            let low : F ≡ i = sym (twice i F) ∙ ap ex j ∙ upper_moves i in
            let high : ex G ≡ suc i = ap ex e ∙ lower_moves i in
            one (sym (is_lower w) ∙ (rw low at (first_is_lem (is p h) s (length h) f).passes)) (sym (is_upper w) ∙ (rw high at (here g)))

        go : Dec (F ≡ 0) → Dec (G ≡ 0) → Dec (G < ex F) → G ≡ ex F
        go (yes z) (yes y) d = y ∙ sym (ap ex z ∙ zero_stays (length older))
        go (yes z) (no g) d = absurd ((early g).0 z)
        go (no f) (yes y) d = absurd ((late f).0 y)
        go (no f) (no g) (yes c) = absurd (omega (arith, less i c (apart f g), twice i F, (early g).1))
        go (no f) (no g) (no c) = omega (arith, (late f).1)

    -- a test that neither passes: the same numbers pass
    pub is_same : {h k : History} → Swapped a b older h k → p a.event ≡ false → p b.event ≡ false → is p k ≡ is p h
    is_same {h} {k} s noA noB = fun_ext (λ n. moved_back s n ∙ go n (place i n))
      where
        go : (n : ℕ) {y : ℕ} → Place i n y → is p h y ≡ is p h n
        go n (Place.lower e f) = rw (e, f) (is_upper s ∙ noB ∙ sym (is_lower s ∙ noA))
        go n (Place.upper e f) = rw (e, f) (is_lower s ∙ noA ∙ sym (is_upper s ∙ noB))
        go n (Place.other c d f) = ap (is p h) f

    pub last_same : {h k : History} → Swapped a b older h k → p a.event ≡ false → p b.event ≡ false → last (is p k) (length k) ≡ last (is p h) (length h)
    last_same {h} {k} s noA noB = rw (is_same s noA noB, same_length s)

    -- and the two are none of them
    pub passing_stays : {h k : History} → Swapped a b older h k → p a.event ≡ false → p b.event ≡ false → (n : ℕ) → is p h n ≡ true → ex n ≡ n
    passing_stays s noA noB n t =
        stays i (λ e. contradiction (rw e at t) (is_lower s ∙ noA)) (λ e. contradiction (rw e at t) (is_upper s ∙ noB))
