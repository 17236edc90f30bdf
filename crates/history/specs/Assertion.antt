-- What "holds", "lost" and "out of order" claim of an assertion, over the list of accepted events with the assertion as its last, n.
use Rattle.std.specs.Prelude.{◌≡◌, true, ℕ, ◌<◌}
use Rattle.event.specs.declared.Range.{Range}
use Rattle.event.specs.declared.Finding.{Finding}
use Rattle.event.specs.declared.Finding.TheVariants.{Holds, Lost, OutOfOrder}
use Rattle.ranges.specs.Ranges.{covers}
use Rattle.history.specs.History.{History}
use Rattle.history.specs.Interval.{last_store}
use Rattle.history.specs.Image.{Image, Allowed}
use Rattle.history.specs.Broken.{KeptIn, LostIn, PersistedBroken, OrderedBroken, meant, meant_pair}

-- x has the property, and none lower has
pub record Lowest (P : ℕ → Type 0) (x : ℕ) : Type 0 where
  pub has : P x
  pub lower : (y : ℕ) → y < x → P y → ⊥

-- an image shows a loss at moment m: it is allowed, has that moment, and loses the byte
pub record Shown (now : History) (i : Image) (m lost : ℕ) : Type 0 where
  pub allowed : Allowed now i
  pub moment : i.moment ≡ m
  pub loses : LostIn now i lost

-- one of the bytes B is broken
pub record BrokenByte (now : History) (n : ℕ) (B : ℕ → Type 0) (b : ℕ) : Type 0 where
  pub judged : B b
  pub broken : PersistedBroken now n b

-- a persisted over the bytes B: no allowed image of moment n loses one of them; or the finding names the lowest broken byte,
-- the moment n and that byte's last store, and the image meant shows it
pub data Persists (now : History) (n : ℕ) (B : ℕ → Type 0) : Finding → Type 0 where
  holds : ((b : ℕ) → BrokenByte now n B b → ⊥) → Persists now n B Holds
  lost : {b : ℕ} → Lowest (BrokenByte now n B) b → Shown now (meant now n b) n b → Persists now n B (Lost b n (last_store now b))

-- a pair of a kept byte of b and a lost byte of a is broken
pub record BrokenPair (now : History) (n : ℕ) (a b : Range) (kept lost : ℕ) : Type 0 where
  pub in_b : covers b kept ≡ true
  pub in_a : covers a lost ≡ true
  pub broken : OrderedBroken now n kept lost

-- the kept byte has a lost partner
abbrev pub HasPartner : History → ℕ → Range → Range → ℕ → Type 0
HasPartner now n a b kept = (lost : ℕ) × BrokenPair now n a b kept lost

-- an ordered, a before b: no allowed image of a moment from 0 to n keeps a byte of b and loses one of a; or the finding names the
-- lowest kept byte that has a lost partner, its lowest lost partner, and the last store of each, the kept one's as the moment;
-- and the image meant shows the loss and keeps the kept byte
pub data Orders (now : History) (n : ℕ) (a b : Range) : Finding → Type 0 where
  holds : ((kept lost : ℕ) → BrokenPair now n a b kept lost → ⊥) → Orders now n a b Holds
  out_of_order : {kept lost : ℕ} → Lowest (HasPartner now n a b) kept → Lowest (BrokenPair now n a b kept) lost →
      Shown now (meant_pair now kept lost) (last_store now kept) lost → KeptIn now (meant_pair now kept lost) kept →
      Orders now n a b (OutOfOrder lost kept (last_store now kept) (last_store now lost))
