use Rattle.writes.specs.History.{newer}
use Rattle.writes.proofs.newer_of.Goals as goal

pub returns-then-both : goal.returns-then-both
unfolding newer
returns-then-both c = rw (← c.both.ensures, c.if-both.true)

pub returns : goal.returns
unfolding newer
returns c = rw (← c.both.ensures, c.if-both.false)
