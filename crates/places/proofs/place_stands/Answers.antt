use Rattle.places.specs.Places.{place_stands}
use Rattle.places.proofs.place_stands.Goals as goal

pub returns : goal.returns
unfolding place_stands
returns c = rw (c.both.ensures, c.weight_of.ensures, c.rank_of.ensures)
