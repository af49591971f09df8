use Rattle.opening.specs.Opening.{refused_opening}
use Rattle.opening.proofs.refused.Goals as goal

pub returns : goal.returns
unfolding refused_opening
returns c = rw (c.machine_of-machine.ensures, c.zero_atomic-none.ensures, c.number-number.ensures)
