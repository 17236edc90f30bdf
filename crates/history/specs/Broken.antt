-- Bytes kept and lost in a crash image, what breaks an assertion, and the image meant by a failure.
use Rattle.std.specs.Prelude.{◌≡◌, ◌≢◌, Bool, true, false, cond, not, ◌&&◌, ℕ, pred, min, ◌≤◌, eqb}
use Rattle.window.specs.Window.{line_of, word_of}
use Rattle.history.specs.History.{History}
use Rattle.history.specs.Interval.{last_store}
use Rattle.history.specs.Image.{Image, pieces, Survives, Torn, Allowed}

-- the image keeps what store s set at byte b: the piece of that store on the byte's line survives whole, or it is torn and the byte's
-- word, as far as the store covers it, is among those chosen
pub data Keeps (h : History) (i : Image) (s b : ℕ) : Type 0 where
  whole : Survives h i (line_of b) s → Keeps h i s b
  word : Torn h i (line_of b) s → i.words (line_of b) (word_of b) ≡ true → Keeps h i s b

-- the byte is kept: the image keeps its last store. A byte never stored to is neither kept nor lost
pub record KeptIn (h : History) (i : Image) (b : ℕ) : Type 0 where
  pub stored : last_store h b ≢ 0
  pub keeps : Keeps h i (last_store h b) b

-- the byte is lost: it has a last store, and is not kept
pub record LostIn (h : History) (i : Image) (b : ℕ) : Type 0 where
  pub stored : last_store h b ≢ 0
  pub loses : Keeps h i (last_store h b) b → ⊥

-- a persisted, or an outermost end, as event n is broken at byte b: the byte is lost in an allowed image of moment n
pub record PersistedBroken (h : History) (n b : ℕ) : Type 0 where
  pub image : Image
  pub allowed : Allowed h image
  pub moment : image.moment ≡ n
  pub loses : LostIn h image b

-- an ordered as event n is broken at a pair: one allowed image of a moment from 0 to n keeps the first and loses the second
pub record OrderedBroken (h : History) (n kept lost : ℕ) : Type 0 where
  pub image : Image
  pub allowed : Allowed h image
  pub moment : image.moment ≤ n
  pub keeps : KeptIn h image kept
  pub loses : LostIn h image lost

-- one store set both bytes on one line
abbrev pub one_store : History → ℕ → ℕ → Bool
one_store h kept lost = eqb (line_of kept) (line_of lost) && eqb (last_store h kept) (last_store h lost)

-- if so, the words of that line but the lost byte's; else none
abbrev pub other_words : History → ℕ → ℕ → ℕ → ℕ → Bool
other_words h kept lost l w = one_store h kept lost && eqb l (line_of lost) && not (eqb w (word_of lost))

-- no word
abbrev pub no_word : ℕ → ℕ → Bool
no_word l w = false

-- every line keeps all its pieces by the moment m, but the lost byte's line only those older than its last store, and with them these
-- words of a torn piece
abbrev pub meant_with : (ℕ → ℕ → Bool) → History → ℕ → ℕ → Image
meant_with words h m lost =
    record {
      moment = m;
      survivors = λ l. cond (eqb l (line_of lost)) (pieces h l (min m (pred (last_store h lost)))) (pieces h l m);
      words = words;
    }

-- the image meant by "lost" at moment m
abbrev pub meant : History → ℕ → ℕ → Image
meant h m lost = meant_with no_word h m lost

-- the image meant by "out of order", at the moment of the kept byte's last store
abbrev pub meant_pair : History → ℕ → ℕ → Image
meant_pair h kept lost = meant_with (other_words h kept lost) h (last_store h kept) lost
