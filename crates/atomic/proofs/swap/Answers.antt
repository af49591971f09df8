use borrow.Author.Tests.{eq-eqb, ne_eqb}
use Rattle.atomic.specs.Atomic.{swapped_of}
use Rattle.atomic.proofs.swap.Goals as goal

pub returns-then-cell-old : goal.returns-then-cell-old
unfolding swapped_of
returns-then-cell-old c = rw (← c.atomic_of-cell.ensures, eq-eqb _ _ c.if-cell-old.true, c.write_atomic-machine.ensures)

pub returns : goal.returns
unfolding swapped_of
returns c = rw (← c.atomic_of-cell.ensures, ne_eqb _ _ c.if-cell-old.false, c.read_atomic-machine.ensures)
