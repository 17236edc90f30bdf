-- Text put into a slice, one part after another.
use mathlib.Core.Path.{◌≡◌, refl, sym, ap, ◌∙◌}
use mathlib.Core.List.{List, [], ◌∷◌, ◌++◌}
use Prim.Native.Nat.{ℕ, ◌+◌, ◌≤◌, ◌<◌}
use lib.ListN.{length, set}
use base.Fml.{GName}
use borrow.Author.Tests.{lt-ltb, le-ltb}
use Rattle.text.specs.Text.{Out, out, put_byte, put}
use Rattle.text.specs.Cursor.{Puts, has_put}
use Rattle.text.specs.declared.Cursor.{Cursor}

-- one byte is put where there is room
pub byte_put : (d : List ℕ) (at b : ℕ) → at < length d → out (set d at b) (at + 1) ≡ put (b ∷ []) (out d at)
unfolding put
byte_put d at b k = rw (lt-ltb at (length d) k)

pub byte_left : (d : List ℕ) (at b : ℕ) → length d ≤ at → out d at ≡ put (b ∷ []) (out d at)
unfolding put
byte_left d at b k = rw (le-ltb at (length d) k)

-- a text and then another
pub put_append : (s t : List ℕ) (o : Out) → put (s ++ t) o ≡ put t (put s o)
unfolding put
put_append [] t o = refl
put_append (b ∷ s) t o = put_append s t (put_byte b o)

-- no text, and one text after another, into a cursor's slice
pub nothing : (c : Cursor) → Puts [] c c
unfolding put
nothing c = record { text = refl; same = refl }

infixl 30 ◌then◌
pub ◌then◌ : {a b : List ℕ} {o p q : Cursor} → Puts a o p → Puts b p q → Puts (a ++ b) o q
◌then◌ {b = b} e f = record { text = f.text ∙ ap (put b) e.text ∙ sym (put_append _ b _); same = f.same ∙ e.same }

-- a slice that was lent to a cursor, and is back: the text that was put is in it, and ends at the cursor's place
pub put_back : {name : GName} {d bytes s : List ℕ} {at n : ℕ} {first last : Cursor} → first.bytes.ghost_name ≡ name → has_put first ≡ out d at →
    Puts s first last → (name ≡ last.bytes.ghost_name → bytes ≡ last.bytes.now) → n ≡ last.next → out bytes n ≡ put s (out d at)
put_back {s = s} same start e back place = rw (place, back (sym same ∙ sym e.same)) (e.text ∙ ap (put s) start)
