use Rattle.state.specs.State.{with_place}
use Rattle.state.proofs.with_place.Goals as goal

pub returns : goal.returns
unfolding with_place
returns c = rw c.with_item-changed.ensures
