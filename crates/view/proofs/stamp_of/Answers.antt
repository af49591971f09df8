use Rattle.view.specs.View.{stamp_of}
use Rattle.view.proofs.stamp_of.Goals as goal

pub returns : goal.returns
unfolding stamp_of
returns c = c.item_or.ensures
