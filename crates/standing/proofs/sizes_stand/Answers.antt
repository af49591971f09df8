use Rattle.standing.specs.Stands.{sizes_stand}
use Rattle.standing.proofs.sizes_stand.Goals as goal

pub returns : goal.returns
unfolding sizes_stand
returns c = rw (c.both-2.ensures, c.shape_stands.ensures, c.both-counted.ensures, c.both.ensures)
