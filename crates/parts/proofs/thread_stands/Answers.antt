use Rattle.parts.specs.Parts.{thread_stands}
use Rattle.parts.proofs.thread_stands.Goals as goal

pub returns : goal.returns
unfolding thread_stands
returns c = rw (c.both.ensures, c.view_stands-seen.ensures, c.cells_of.ensures, c.row_of.ensures, c.place_stands-placed.ensures, c.place_of.ensures)
