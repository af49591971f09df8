use borrow.Author.Rules.{rules}
use Rattle.rank.specs.Rank.{free_status}
use Rattle.opening.proofs.status_at.Goals as goal

pub overflow_cast-value : goal.overflow_cast-value
unfolding free_status
overflow_cast-value c = search (rules, c.free_status-value.ensures)

pub returns : goal.returns
returns c = rw (c.zero_view-view.ensures, c.free_status-value.ensures)
