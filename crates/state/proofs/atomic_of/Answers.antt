use Rattle.state.specs.State.{atomic_at}
use Rattle.state.proofs.atomic_of.Goals as goal

pub returns-in-Head : goal.returns-in-Head
unfolding atomic_at
returns-in-Head c = rw c.in-Head.is

pub returns-in-Tail : goal.returns-in-Tail
unfolding atomic_at
returns-in-Tail c = rw c.in-Tail.is

pub returns-in-Flag : goal.returns-in-Flag
unfolding atomic_at
returns-in-Flag c = rw (c.in-Flag.is, c.item_in.ensures, c.zero_atomic.ensures)

pub returns-in-Status : goal.returns-in-Status
unfolding atomic_at
returns-in-Status c = rw (c.in-Status.is, c.item_in-in-Status.ensures, c.zero_atomic-in-Status.ensures)
