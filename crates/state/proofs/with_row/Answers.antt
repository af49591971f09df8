use Rattle.state.specs.State.{with_row}
use Rattle.state.proofs.with_row.Goals as goal

pub returns : goal.returns
unfolding with_row
returns c = rw c.with_item-changed.ensures
