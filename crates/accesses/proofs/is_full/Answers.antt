use borrow.Author.Tests.{le-leb, lt-leb}
use Rattle.laws.specs.Tests.{◌or◌}
use Rattle.accesses.proofs.is_full.Goals as goal

pub returns-then-held-ge1024 : goal.returns-then-held-ge1024
unfolding ◌or◌
returns-then-held-ge1024 c = rw (c.in-Writes.is, le-leb _ _ c.if-held-ge1024.true)

pub returns-else-held-ge1024 : goal.returns-else-held-ge1024
unfolding ◌or◌
returns-else-held-ge1024 c = rw (c.in-Writes.is, lt-leb _ _ c.if-held-ge1024.false)
