-- The line of a finding: one blank parts the fields, and a line feed ends it.
use Rattle.std.specs.Prelude.{Bool, cond, ◌&&◌, List, [], ◌∷◌, ◌++◌, ℕ, leb, get_or}
use Rattle.event.specs.declared.Fields.{Fields}
use Rattle.text.specs.Text.{ascii, decimal}

-- the names of the findings, in the order of their kinds
abbrev pub names : List (List ℕ)
names =
    ascii "none" ∷ ascii "holds" ∷ ascii "lost" ∷ ascii "out-of-order" ∷ ascii "unlogged" ∷ ascii "clean" ∷ ascii "written-twice" ∷
    ascii "logged-twice" ∷ ascii "empty" ∷ []

-- a number that is no kind has no name
abbrev pub name_of : ℕ → List ℕ
name_of kind = get_or names kind []

-- kind 0 is not printed, and neither is a number that is no kind
abbrev pub is_printed : ℕ → Bool
is_printed kind = leb 1 kind && leb kind 8

-- a blank and a number
unfoldable pub field : ℕ → List ℕ
field n = ascii " " ++ decimal n

-- lost, kept, moment, store
unfoldable pub values : Fields → List ℕ
values f = field f.lost ++ field f.kept ++ field f.moment ++ field f.store

-- columns: event, site, name, lost, kept, moment, store
unfoldable pub columns : (event site : ℕ) → Fields → List ℕ
columns event site f = decimal event ++ field site ++ ascii " " ++ name_of f.kind ++ values f ++ ascii "\n"

unfoldable pub finding_line : (event site : ℕ) → Fields → List ℕ
finding_line event site f = cond (is_printed f.kind) (columns event site f) []
