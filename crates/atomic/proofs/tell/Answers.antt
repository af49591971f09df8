use Rattle.atomic.specs.Atomic.{told}
use Rattle.atomic.proofs.tell.Goals as goal

pub returns : goal.returns
unfolding told
returns c = rw (c.join.ensures, c.cells_of.ensures, c.row_of.ensures, c.atomic_of-cell.ensures)
