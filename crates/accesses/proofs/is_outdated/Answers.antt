use Rattle.accesses.proofs.is_outdated.Goals as goal

pub returns-in-Reads : goal.returns-in-Reads
returns-in-Reads c = rw (c.in-Reads.is, c.stamp_of.ensures, c.index.ensures)

pub returns-in-Writes : goal.returns-in-Writes
returns-in-Writes c = rw (c.in-Writes.is, c.stamp_of-in-Writes.ensures, c.index-in-Writes.ensures)
