use Rattle.laws.specs.Tests.{◌and◌}
use Rattle.standing.proofs.stands_by.Goals as goal

pub returns-then-not-sized : goal.returns-then-not-sized
unfolding ◌and◌
returns-then-not-sized c = rw (← c.sizes_stand-sized.ensures, c.if-not-sized.true)

pub returns : goal.returns
unfolding ◌and◌
returns c =
    rw (c.both.ensures, c.parts_stand.ensures, ← c.sizes_stand-sized.ensures, c.if-not-sized.false)
