-- The name behind two blanks, in what is left of the field.
use Rattle.page_lines.proofs.Padded.{behind_two}
use Rattle.page_lines.proofs.put_name.Goals as goal

pub returns : goal.returns
returns c = rw (← c.name.ensures) (behind_two c.name.result.now c.put.ensures c.left.ensures)
