use Rattle.asking.proofs.asked_of.Goals as goal

pub returns : goal.returns
returns c = rw (c.access_of.ensures, c.place_of.ensures, c.index.ensures)
