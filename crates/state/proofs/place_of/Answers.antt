use Rattle.state.specs.State.{place}
use Rattle.state.proofs.place_of.Goals as goal

pub returns : goal.returns
unfolding place
returns c = rw c.item_in-thread.ensures
