use Rattle.state.specs.State.{row}
use Rattle.state.proofs.row_of.Goals as goal

pub returns : goal.returns
unfolding row
returns c = rw (c.item_in.ensures, c.zero_view.ensures)
