use Rattle.atomic.specs.Atomic.{write_atomic}
use Rattle.atomic.proofs.write_atomic.Goals as goal

pub returns : goal.returns
unfolding write_atomic
returns c = rw (c.with_atomic.ensures, c.with_row.ensures, c.meet.ensures, c.tell-view.ensures)
