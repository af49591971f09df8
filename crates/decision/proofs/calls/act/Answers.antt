use borrow.Author.Rules.{rules}
use Rattle.rules.specs.Calls.{acted}
use Rattle.decision.proofs.calls.act.Goals as goal

pub resume-requires : goal.resume-requires
resume-requires c = record { p_bound = rw c.place_of.ensures c.requires.i_bound; slots_bound = c.requires.slots_bound }

pub returns-in-Get : goal.returns-in-Get
unfolding acted
returns-in-Get c = rw (c.in-Get.is, c.end.ensures)

pub returns-in-Set : goal.returns-in-Set
unfolding acted
returns-in-Set c = rw (c.in-Set.is, c.end-in-Set.ensures)

pub returns-in-Load : goal.returns-in-Load
unfolding acted
returns-in-Load c = rw (c.in-Load.is, c.end-in-Load.ensures, c.read_atomic.ensures, c.atomic_of-cell.ensures, c.index.ensures)

pub returns-in-Store : goal.returns-in-Store
unfolding acted
returns-in-Store c = rw (c.in-Store.is, c.end-in-Store.ensures, c.write_atomic.ensures, c.index-in-Store.ensures)

pub returns-in-Swap : goal.returns-in-Swap
unfolding acted
returns-in-Swap c = rw (c.in-Swap.is, c.end-in-Swap.ensures, c.yes_if.ensures, c.swap-s.ensures, c.index-in-Swap.ensures)

pub returns-in-Put : goal.returns-in-Put
unfolding acted
returns-in-Put c = rw (c.in-Put.is, c.end-in-Put.ensures, c.read_atomic-in-Put.ensures)

pub returns-in-Take : goal.returns-in-Take
unfolding acted
returns-in-Take c = rw (c.in-Take.is, c.end-in-Take.ensures, c.read_atomic-in-Take.ensures)

pub returns-in-Go : goal.returns-in-Go
unfolding acted
returns-in-Go c = search rules
