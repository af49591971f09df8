use Rattle.laws.specs.Tests.{◌and◌}
use Rattle.laws.proofs.both.Goals as goal

pub returns-then-a : goal.returns-then-a
unfolding ◌and◌
returns-then-a c = rw c.if-a.true

pub returns-else-a : goal.returns-else-a
unfolding ◌and◌
returns-else-a c = rw c.if-a.false
