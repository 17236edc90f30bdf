-- Pieces and allowed crash images, in plain words.
use mathlib.Core.Path.{◌≡◌}
use mathlib.Core.Bool.{Bool, true, cond}
use mathlib.Core.List.{◌∷◌}
use Prim.Native.Nat.{ℕ, suc, ◌≤◌}
use native.Mathlib.Nat.{le_refl, le_trans}
use native.Mathlib.Omega.{arith}
use native.Mathlib.Decide.{ℕ_discrete as dec_eq}
use lib.Dec.{eqb}
use lib.ListN.{length}
use borrow.Author.Tests.{eq-eqb, ne_eqb}
use Rattle.event.specs.declared.Record.{Record}
use Rattle.history.specs.History.{History, is, stores_line}
use Rattle.history.specs.Image.{Image, pieces, Forced, Survives, Allowed}
use Rattle.history.specs.Broken.{no_word}
use Rattle.history.proofs.History.{count_newest}
use Rattle.history.proofs.Image.{pieces_mono, forced_happened}

-- an event adds one piece to each line that it stores to, and none to any other
pub piece_each_line : (r : Record) (h : History) (l : ℕ) →
    pieces (r ∷ h) l (suc (length h)) ≡ cond (stores_line l r.event) (suc (pieces h l (length h))) (pieces h l (length h))
unfolding pieces
piece_each_line r h l = count_newest (stores_line l) r h

-- pieces survive oldest first: where one survives whole, so does every older one
pub oldest_first : (h : History) (i : Image) (l : ℕ) {s t : ℕ} → t ≤ s → Survives h i l s → Survives h i l t
oldest_first h i l k x = le_trans (pieces_mono h l k) x

-- every moment has an allowed image: the one in which all pieces by then survive
abbrev pub whole : History → ℕ → Image
whole h m = record { moment = m; survivors = λ l. pieces h l m; words = no_word }

pub whole_allowed : (h : History) (m : ℕ) → m ≤ length h → Allowed h (whole h m)
whole_allowed h m k =
    record {
      happened = k;
      least = λ l s t f. pieces_mono h l (omega (arith, forced_happened h f));
      most = λ l. le_refl (pieces h l m);
    }

-- lines are independent: in an allowed image, any one line may have any other count of survivors between its forced pieces and
-- all its pieces by the moment, and any other words
abbrev pub with_line : Image → ℕ → ℕ → (ℕ → Bool) → Image
with_line i line n words =
    record { moment = i.moment; survivors = λ l. cond (eqb l line) n (i.survivors l); words = λ l. cond (eqb l line) words (i.words l) }

pub independent : (h : History) (i : Image) (line n : ℕ) (words : ℕ → Bool) → Allowed h i →
    ((s : ℕ) → is (stores_line line) h s ≡ true → Forced h line s i.moment → pieces h line s ≤ n) → n ≤ pieces h line i.moment →
    Allowed h (with_line i line n words)
independent h i line n words a low high = record { happened = a.happened; least = λ l s t f. least l s t f (dec_eq l line); most = λ l. most l (dec_eq l line) }
  where
    least : (l s : ℕ) → is (stores_line l) h s ≡ true → Forced h l s i.moment → Dec (l ≡ line) → Survives h (with_line i line n words) l s
    least l s t f (yes e) = rw (eq-eqb l line e) (rw e (low s (rw e at t) (rw e at f)))
    least l s t f (no d) = rw (ne_eqb l line d) (a.least l s t f)

    most : (l : ℕ) → Dec (l ≡ line) → (with_line i line n words).survivors l ≤ pieces h l i.moment
    most l (yes e) = rw (eq-eqb l line e) (rw e high)
    most l (no d) = rw (ne_eqb l line d) (a.most l)
