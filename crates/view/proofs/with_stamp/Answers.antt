use Rattle.view.specs.View.{with_stamp}
use Rattle.view.proofs.with_stamp.Goals as goal

pub returns : goal.returns
unfolding with_stamp
returns c = rw c.with_item.ensures
