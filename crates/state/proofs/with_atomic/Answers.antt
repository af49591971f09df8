use Rattle.state.specs.State.{with_atomic}
use Rattle.state.proofs.with_atomic.Goals as goal

pub returns-in-Head : goal.returns-in-Head
unfolding with_atomic
returns-in-Head c = rw c.in-Head.is

pub returns-in-Tail : goal.returns-in-Tail
unfolding with_atomic
returns-in-Tail c = rw c.in-Tail.is

pub returns-in-Flag : goal.returns-in-Flag
unfolding with_atomic
returns-in-Flag c = rw (c.in-Flag.is, c.with_item-changed.ensures)

pub returns-in-Status : goal.returns-in-Status
unfolding with_atomic
returns-in-Status c = rw (c.in-Status.is, c.with_item-changed-in-Status.ensures)
