use Rattle.measure.proofs.Widths.{some_limited}
use Rattle.measure.proofs.in_range.Goals as goal

pub returns : goal.returns
returns c = rw (← some_limited, ← c.limit.ensures) c.is_some.ensures
