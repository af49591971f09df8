use Rattle.decision.proofs.stands_if.Goals as goal

pub returns-then-asked : goal.returns-then-asked
returns-then-asked c =
    rw (c.if-asked.true, c.both.ensures, c.rank_fits.ensures, c.sizes_stand.ensures)

pub returns : goal.returns
returns c = rw (c.if-asked.false, c.stands_by.ensures)
