use Rattle.standing.specs.Stands.{shape_stands}
use Rattle.standing.proofs.shape_stands.Goals as goal

pub returns : goal.returns
unfolding shape_stands
returns c = rw c.in_shape.ensures
