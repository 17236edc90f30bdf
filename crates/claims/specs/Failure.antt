-- What the answer to an assertion that does not hold says, in document 01's numbers: kind, lost, kept, moment, store. The list `now` has
-- the assertion as its last event, number n.
use Rattle.std.specs.Prelude.{◌≡◌, [], ◌∷◌, ℕ}
use Rattle.event.specs.declared.Range.{Range}
use Rattle.event.specs.Reply.{Reply}
use Rattle.history.specs.History.{History}
use Rattle.history.specs.Interval.{last_store}
use Rattle.history.specs.Broken.{KeptIn, meant, meant_pair}
use Rattle.history.specs.Assertion.{Lowest, Shown, BrokenByte, BrokenPair, HasPartner}

-- "holds": kind 1, and no field
abbrev pub holds : Reply
holds = Reply.values (1 ∷ 0 ∷ 0 ∷ 0 ∷ 0 ∷ [])

-- "lost": the lowest of the bytes B that is broken, moment n, and its last store; the image meant is allowed and loses that byte
pub record LostAt (now : History) (n : ℕ) (B : ℕ → Type 0) (answer : Reply) : Type 0 where
  pub lost : ℕ
  pub named : answer ≡ Reply.values (2 ∷ lost ∷ 0 ∷ n ∷ last_store now lost ∷ [])
  pub lowest : Lowest (BrokenByte now n B) lost
  pub shown : Shown now (meant now n lost) n lost

-- "out-of-order": the lowest kept byte of b that has a lost partner in a, its lowest lost partner, and the last stores of the two, the
-- kept byte's as the moment; the image meant is allowed, loses the one and keeps the other
pub record OutOfOrderAt (now : History) (n : ℕ) (a b : Range) (answer : Reply) : Type 0 where
  pub kept : ℕ
  pub lost : ℕ
  pub named : answer ≡ Reply.values (3 ∷ lost ∷ kept ∷ last_store now kept ∷ last_store now lost ∷ [])
  pub lowest_kept : Lowest (HasPartner now n a b) kept
  pub lowest_lost : Lowest (BrokenPair now n a b kept) lost
  pub shown : Shown now (meant_pair now kept lost) (last_store now kept) lost
  pub keeps : KeptIn now (meant_pair now kept lost) kept
