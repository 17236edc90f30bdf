-- What is printed for a findings area: the pages, or where it is refused only the refusal.
use Rattle.std.specs.Prelude.{List, ℕ, Ok, Err}
use Rattle.event.specs.Numbers.{number_of}
use Rattle.lines.specs.Lines.{refusal_line}
use Rattle.page_layout.specs.Pages.{pages_of}
use Rattle.pages.specs.Answers.{Paged}
use Rattle.pages.specs.Paged.{paged_of}

abbrev pub report_for : Paged → List ℕ → List ℕ
report_for (Err r) area = refusal_line (number_of r.refusal) r.position
report_for (Ok length) area = pages_of area

-- in so many bytes
unfoldable pub report_of : List ℕ → (room : ℕ) → List ℕ
report_of area room = report_for (paged_of area room) area
