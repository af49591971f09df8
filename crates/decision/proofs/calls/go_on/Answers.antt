use Rattle.rules.specs.Calls.{goes_on}
use Rattle.decision.proofs.calls.go_on.Goals as goal

pub returns-then-on : goal.returns-then-on
unfolding goes_on
returns-then-on c = rw (c.end.ensures, c.if-on.true)

pub returns : goal.returns
unfolding goes_on
returns c = rw (c.end-2.ensures, c.if-on.false)
