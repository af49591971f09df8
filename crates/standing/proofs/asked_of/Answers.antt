use Rattle.standing.proofs.asked_of.Goals as goal

pub returns : goal.returns
returns c = rw (c.sought.ensures, c.cells_of.ensures)
