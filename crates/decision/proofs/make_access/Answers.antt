use borrow.Author.Rules.{rules}
use Rattle.rules.specs.Access.{accessed}
use Rattle.decision.proofs.make_access.Goals as goal

pub returns-in-NoAccess : goal.returns-in-NoAccess
unfolding accessed
returns-in-NoAccess c = search rules

pub returns-in-Writes : goal.returns-in-Writes
unfolding accessed
returns-in-Writes c = rw (c.in-Writes.is, c.with_row-next.ensures, c.with_stamp-row.ensures, c.index.ensures, c.row_of.ensures)
