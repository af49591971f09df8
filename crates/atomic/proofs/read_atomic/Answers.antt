use Rattle.atomic.specs.Atomic.{read_atomic}
use Rattle.atomic.proofs.read_atomic.Goals as goal

pub returns : goal.returns
unfolding read_atomic
returns c = rw (c.with_row.ensures, c.meet.ensures)
