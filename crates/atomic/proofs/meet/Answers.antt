use Rattle.atomic.specs.Atomic.{met}
use Rattle.atomic.proofs.meet.Goals as goal

pub returns : goal.returns
unfolding met
returns c = rw (c.join.ensures, c.cells_of.ensures, c.row_of.ensures, c.atomic_of-cell.ensures)
