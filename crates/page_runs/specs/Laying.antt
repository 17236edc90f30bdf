-- The page area after a call that is read from bytes.
use Rattle.std.specs.Prelude.{ℕ, Bool, cond, ◌||◌, List, length, ◌==◌, Ok, Err}
use Rattle.writer_calls.specs.Writing.{pattern}
use Rattle.pages.specs.Answers.{Paged}
use Rattle.pages.specs.Paged.{page_area_after}

-- the findings laid out in the area, each byte of which is A5h before
abbrev pub laid_out : (findings area : List ℕ) → List ℕ
laid_out findings area = page_area_after findings (pattern 165 0 (length area))

-- how many bytes an answer says were written
abbrev pub written_of : Paged → ℕ
written_of (Err r) = 0
written_of (Ok length) = length

-- 4 and 5 lay out the findings; any other call leaves the area as it was
abbrev pub is_layout : ℕ → Bool
is_layout kind = kind == 4 || kind == 5

abbrev pub area_after_call : (kind : ℕ) → (findings area : List ℕ) → List ℕ
area_after_call kind findings area = cond (is_layout kind) (laid_out findings area) area
