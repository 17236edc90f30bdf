-- The names of the findings.
use mathlib.Core.Path.{◌≡◌, refl, sym}
use mathlib.Core.Bool.{Bool, true, false, ◌&&◌, true≢false}
use Prim.Native.Nat.{ℕ, zero, suc, ◌+◌, ◌≤◌, ◌<◌, max, min}
use mathlib.Core.List.{List, [], ◌∷◌}
use native.Mathlib.Omega.{arith}
use lib.Dec.{leb}
use lib.ListN.{length, get_or}
use borrow.Author.Tests.{leb-true}
use Rattle.text.specs.Occurs.{occurs}
use Rattle.finding_lines.specs.Lines.{names, name_of, is_printed}

-- the size of the longest of some texts
abbrev longest : List (List ℕ) → ℕ
longest [] = 0
longest (s ∷ rest) = max (length s) (longest rest)

not_longer : (texts : List (List ℕ)) (i : ℕ) → length (get_or texts i []) ≤ longest texts
not_longer [] i = omega arith
not_longer (s ∷ rest) zero = omega arith
not_longer (s ∷ rest) (suc i) = omega (arith, not_longer rest i)

-- no name has more than 13 bytes
pub name_size : (kind : ℕ) → length (name_of kind) ≤ 13
name_size kind = not_longer names kind

-- how often a byte occurs in some texts
abbrev occurs_in : ℕ → List (List ℕ) → ℕ
occurs_in b [] = 0
occurs_in b (s ∷ rest) = occurs b s + occurs_in b rest

none_has : (b : ℕ) (texts : List (List ℕ)) (i : ℕ) → occurs_in b texts ≡ 0 → occurs b (get_or texts i []) ≡ 0
none_has b [] i e = refl
none_has b (s ∷ rest) zero e = omega arith
none_has b (s ∷ rest) (suc i) e = none_has b rest i (omega arith)

-- no name has a blank or a line feed in it
pub no_blank : (kind : ℕ) → occurs 32 (name_of kind) ≡ 0
no_blank kind = none_has 32 names kind refl

pub no_feed : (kind : ℕ) → occurs 10 (name_of kind) ≡ 0
no_feed kind = none_has 10 names kind refl

-- the size of the shortest of some texts
abbrev shortest : List (List ℕ) → ℕ
shortest [] = 65535
shortest (s ∷ rest) = min (length s) (shortest rest)

not_shorter : (texts : List (List ℕ)) (i : ℕ) → i < length texts → shortest texts ≤ length (get_or texts i [])
not_shorter [] i k = absurd (omega arith)
not_shorter (s ∷ rest) zero k = omega arith
not_shorter (s ∷ rest) (suc i) k = omega (arith, not_shorter rest i (omega arith))

-- what is printed is a kind, and has a name
and_false : (b : Bool) → b && false ≡ false
and_false true = refl
and_false false = refl

printed_known : (kind : ℕ) → is_printed kind ≡ true → kind ≤ 8
printed_known kind e = go (leb kind 8) refl
  where
    go : (b : Bool) → leb kind 8 ≡ b → kind ≤ 8
    go true t = leb-true kind 8 t
    go false t = let z : false ≡ true = simp (t, and_false) at e in absurd (true≢false (sym z))

pub some_name : (kind : ℕ) → is_printed kind ≡ true → 0 < length (name_of kind)
some_name kind e = omega (arith, printed_known kind e, not_shorter names kind (omega (arith, printed_known kind e)))
