-- The writer and its area after an event.
use Rattle.std.proofs.Common.{◌≡◌, ℕ, ◌≤◌, ◌≢◌, List, get_or, ◌∙◌, ne_eqb, le-leb}
use Rattle.file.specs.declared.Writer.{Writer}
use Rattle.file.specs.Write.{bytes_written_of, area_bytes_written}
use Rattle.writer_calls.specs.Writing.{record_in, writer_after_call, area_after_call}

module _ (area preamble : List ℕ) (w : Writer) (s : List ℕ) {kind : ℕ} (k : kind ≡ get_or s 0 0) where
  -- both are those of the call
  abbrev After : Writer → List ℕ → Type 0
  After next left = (next ≡ writer_after_call area preamble w s) × (left ≡ area_after_call area preamble w s)

  -- a call that is none of the three before
  module _ (a : kind ≢ 35) (b : kind ≢ 36) (c : kind ≢ 37) where
    pub event_call : {bytes : List ℕ} {next : Writer} {left : List ℕ} → 64 ≤ kind → bytes ≡ record_in s →
        next ≡ (bytes_written_of area w bytes).writer → left ≡ area_bytes_written area w bytes → After next left
    event_call e n p q = (
      p ∙ simp (n, ← k, ne_eqb kind 35 a, ne_eqb kind 36 b, ne_eqb kind 37 c, le-leb 64 kind e),
      q ∙ simp (n, ← k, ne_eqb kind 35 a, ne_eqb kind 36 b, ne_eqb kind 37 c, le-leb 64 kind e),
    )
