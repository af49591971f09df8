use Rattle.writes.specs.History.{shown_by}
use Rattle.writes.proofs.shown_by.Goals as goal

pub returns : goal.returns
unfolding shown_by
returns c = rw (c.then_some.ensures, c.both.ensures)
