-- Crash images: a moment and, for each line, how many of its pieces survive whole, oldest first, and which words of the next one do.
use Rattle.std.specs.Prelude.{◌≡◌, Bool, true, ℕ, ◌≤◌, ◌<◌, length}
use Rattle.history.specs.Count.{count}
use Rattle.history.specs.History.{History, is, fences, stores_line, writes_back_line}

pub record Image : Type 0 where
  pub moment : ℕ  -- events 1 to this one have happened
  pub survivors : ℕ → ℕ  -- of a line: its pieces that survive whole
  pub words : ℕ → ℕ → Bool  -- of a line: the words chosen of the piece that is torn

-- a store is cut into one piece per line touched: how many pieces line l has by event m
unfoldable pub pieces : History → ℕ → ℕ → ℕ
pieces h l m = count (is (stores_line l) h) m

-- event s is followed by a write-back of line l and then a fence, all by m
pub record Forced (h : History) (l s m : ℕ) : Type 0 where
  pub back : ℕ
  pub fence : ℕ
  pub after : s < back
  pub is_back : is (writes_back_line l) h back ≡ true
  pub later : back < fence
  pub is_fence : is fences h fence ≡ true
  pub by : fence ≤ m

-- the piece of store s on line l survives whole: oldest first, so with all that are as old
abbrev pub Survives : History → Image → ℕ → ℕ → Type 0
Survives h i l s = pieces h l s ≤ i.survivors l

-- it is the piece that is torn: the oldest by the moment that does not survive whole
pub record Torn (h : History) (i : Image) (l s : ℕ) : Type 0 where
  pub piece : is (stores_line l) h s ≡ true
  pub by : s ≤ i.moment
  pub not_whole : Survives h i l s → ⊥
  pub oldest : (t : ℕ) → t < s → is (stores_line l) h t ≡ true → Survives h i l t

-- at least the forced pieces survive whole, and at most all pieces by the moment do; any words may be chosen
pub record Allowed (h : History) (i : Image) : Type 0 where
  pub happened : i.moment ≤ length h
  pub least : (l s : ℕ) → is (stores_line l) h s ≡ true → Forced h l s i.moment → Survives h i l s
  pub most : (l : ℕ) → i.survivors l ≤ pieces h l i.moment
