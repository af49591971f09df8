use borrow.Author.Tests.{lt-ltb, le-ltb}
use Rattle.decision.specs.Decision.{rank_fits}
use Rattle.laws.specs.Tests.{◌or◌}
use Rattle.decision.proofs.rank_fits.Goals as goal

pub returns-then-shape-step : goal.returns-then-shape-step
unfolding rank_fits ◌or◌
returns-then-shape-step c = rw (lt-ltb _ _ c.if-shape-step.true)

pub returns : goal.returns
unfolding rank_fits ◌or◌
returns c =
    rw (le-ltb _ _ c.if-shape-step.false, c.rank_of.ensures, c.place_of.ensures, c.index.ensures)
