-- What "unlogged", "logged twice", "clean" and "written twice" claim, over the list of accepted events h before the event.
use Rattle.std.specs.Prelude.{◌≡◌, true, ◌≢◌, ◌⊎◌, ℕ, ◌<◌}
use Rattle.event.specs.declared.Range.{Range}
use Rattle.event.specs.declared.Finding.{Finding}
use Rattle.event.specs.declared.Finding.TheVariants.{None, Clean, WrittenTwice}
use Rattle.window.specs.Window.{line_start}
use Rattle.ranges.specs.Ranges.{covers, touches}
use Rattle.history.specs.History.{History, is, stores_line, writes_back_line, logs_byte}
use Rattle.history.specs.Transaction.{depth, Since}
use Rattle.history.specs.Assertion.{Lowest}

-- a warning names the lowest number with the property; there is none where no number has it
pub data Warned (P : ℕ → Type 0) (warning : ℕ → Finding) : Finding → Type 0 where
  none : ((x : ℕ) → P x → ⊥) → Warned P warning None
  warns : {x : ℕ} → Lowest P x → Warned P warning (warning x)

-- unlogged: a byte of a store inside a transaction, not logged since the outermost begin
pub record UnloggedByte (h : History) (a : Range) (b : ℕ) : Type 0 where
  pub covered : covers a b ≡ true
  pub inside : depth h ≢ 0
  pub unlogged : Since h (logs_byte b) → ⊥

-- logged twice: a byte of a log already logged in this transaction
pub record LoggedByte (h : History) (a : Range) (b : ℕ) : Type 0 where
  pub covered : covers a b ≡ true
  pub logged : Since h (logs_byte b)

-- clean: a line never stored to
abbrev pub NeverStored : History → ℕ → Type 0
NeverStored h l = (s : ℕ) → is (stores_line l) h s ≡ true → ⊥

-- written twice: a line stored to, but not since its last write-back
pub record NotSince (h : History) (l : ℕ) : Type 0 where
  pub store : ℕ
  pub is_store : is (stores_line l) h store ≡ true
  pub back : ℕ
  pub is_back : is (writes_back_line l) h back ≡ true
  pub older : (s : ℕ) → is (stores_line l) h s ≡ true → s < back

-- a line that a write-back touches and that fits either
pub record Wasted (h : History) (a : Range) (l : ℕ) : Type 0 where
  pub touched : touches a l ≡ true
  pub fits : NeverStored h l ⊎ NotSince h l

-- kinds 5 and 6 go by the lowest touched line that fits either, with its start address
pub data WrittenBack (h : History) (a : Range) : Finding → Type 0 where
  useful : ((l : ℕ) → Wasted h a l → ⊥) → WrittenBack h a None
  clean : {l : ℕ} → Lowest (Wasted h a) l → NeverStored h l → WrittenBack h a (Clean (line_start l))
  twice : {l : ℕ} → Lowest (Wasted h a) l → NotSince h l → WrittenBack h a (WrittenTwice (line_start l))
