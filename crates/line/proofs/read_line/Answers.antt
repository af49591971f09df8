use Rattle.line.specs.Row.{read_line}
use Rattle.line.proofs.read_line.Goals as goal

pub returns-in-Ok-value : goal.returns-in-Ok-value
unfolding read_line
returns-in-Ok-value c = rw (← c.read_row.ensures, c.in-Ok.is, c.in-Ok-value.is, c.line_of.ensures)

pub returns-in-Err-value : goal.returns-in-Err-value
unfolding read_line
returns-in-Err-value c = rw (← c.read_row.ensures, c.in-Ok.is, c.in-Err-value.is)

pub returns-in-Err : goal.returns-in-Err
unfolding read_line
returns-in-Err c = rw (← c.read_row.ensures, c.in-Err.is)
