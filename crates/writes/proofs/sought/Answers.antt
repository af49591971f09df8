use Rattle.writes.specs.Searched.{sought_of}
use Rattle.writes.proofs.sought.Goals as goal

pub returns : goal.returns
unfolding sought_of
returns c = rw c.then_some-found.ensures
