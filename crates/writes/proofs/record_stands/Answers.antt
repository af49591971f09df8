use Rattle.writes.specs.History.{record_stands}
use Rattle.writes.proofs.record_stands.Goals as goal

pub returns : goal.returns
unfolding record_stands
returns c = rw (c.both-3.ensures, c.both-2.ensures, c.both.ensures)
