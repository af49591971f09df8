use borrow.Author.Rules.{rules}
use Rattle.rules.specs.Calls.{swaps}
use Rattle.rank.specs.Rank.{next_rank}
use Rattle.decision.proofs.calls.swap.Goals as goal

pub overflow_cast-next_rank : goal.overflow_cast-next_rank
unfolding next_rank
overflow_cast-next_rank c = search (rules, c.next_rank.ensures)

pub returns : goal.returns
unfolding swaps
returns c = rw (c.go_on.ensures, c.swap-s.ensures, c.next_rank.ensures)
