use Rattle.standing.specs.Stands.{in_shape}
use Rattle.standing.proofs.in_shape.Goals as goal

pub returns : goal.returns
unfolding in_shape
returns c = rw (c.both-3.ensures, c.both-2.ensures, c.both.ensures, c.both-c.ensures, c.both-t.ensures)
