use Rattle.opening.specs.Opening.{unmoved}
use Rattle.opening.proofs.machine_of.Goals as goal

pub returns : goal.returns
unfolding unmoved
returns c = rw (c.zero_atomic-none.ensures, c.zero_view-view.ensures)
