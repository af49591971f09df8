use Rattle.parts.specs.Parts.{atomic_stands}
use Rattle.parts.proofs.atomic_stands.Goals as goal

pub returns : goal.returns
unfolding atomic_stands
returns c = rw (c.both.ensures, c.view_stands-seen.ensures)
