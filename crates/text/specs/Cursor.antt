-- A cursor's slice and place, and what it has put.
use Rattle.std.specs.Prelude.{◌≡◌, List, ℕ}
use Rattle.text.specs.Text.{Out, out, put}
use Rattle.text.specs.declared.Cursor.{Cursor}

abbrev pub has_put : Cursor → Out
has_put c = out c.bytes.now c.next

-- a text is put, into the same slice
pub record Puts (s : List ℕ) (before after : Cursor) : Type 0 where
  pub text : has_put after ≡ put s (has_put before)
  pub same : after.bytes.ghost_name ≡ before.bytes.ghost_name
