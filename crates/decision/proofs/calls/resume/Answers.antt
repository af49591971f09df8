use native.Mathlib.Omega.{arith}
use Rattle.rules.specs.Calls.{resumed}
use Rattle.rank.specs.Rank.{free_status, full_status, lapped}
use Rattle.decision.proofs.calls.resume.Goals as goal

pub swap-requires : goal.swap-requires
swap-requires c = rw c.in-PutSwap.is at c.requires.p_bound

pub close-requires : goal.close-requires
unfolding full_status
close-requires c = omega (arith, c.full_status.ensures, rw c.in-PutPublish.is at c.requires.p_bound)

pub swap-requires-in-TakeSwap : goal.swap-requires-in-TakeSwap
swap-requires-in-TakeSwap c = rw c.in-TakeSwap.is at c.requires.p_bound

pub close-requires-in-TakeFree : goal.close-requires-in-TakeFree
unfolding free_status lapped
close-requires-in-TakeFree c = omega (arith, c.freed_status.ensures, c.requires.slots_bound, rw c.in-TakeFree.is at c.requires.p_bound)

pub returns-in-Idle : goal.returns-in-Idle
unfolding resumed
returns-in-Idle c = rw (c.in-Idle.is, c.end.ensures)

pub returns-in-PutStatus : goal.returns-in-PutStatus
unfolding resumed
returns-in-PutStatus c = rw (c.in-PutStatus.is, c.look.ensures, c.free_status.ensures)

pub returns-in-PutSwap : goal.returns-in-PutSwap
unfolding resumed
returns-in-PutSwap c = rw (c.in-PutSwap.is, c.swap.ensures)

pub returns-in-PutWrite : goal.returns-in-PutWrite
unfolding resumed
returns-in-PutWrite c = rw (c.in-PutWrite.is, c.end-in-PutWrite.ensures)

pub returns-in-PutPublish : goal.returns-in-PutPublish
unfolding resumed
returns-in-PutPublish c = rw (c.in-PutPublish.is, c.close.ensures, c.full_status.ensures)

pub returns-in-TakeStatus : goal.returns-in-TakeStatus
unfolding resumed
returns-in-TakeStatus c = rw (c.in-TakeStatus.is, c.look-in-TakeStatus.ensures, c.full_status-in-TakeStatus.ensures)

pub returns-in-TakeSwap : goal.returns-in-TakeSwap
unfolding resumed
returns-in-TakeSwap c = rw (c.in-TakeSwap.is, c.swap-in-TakeSwap.ensures)

pub returns-in-TakeRead : goal.returns-in-TakeRead
unfolding resumed
returns-in-TakeRead c = rw (c.in-TakeRead.is, c.end-in-TakeRead.ensures)

pub returns-in-TakeFree : goal.returns-in-TakeFree
unfolding resumed
returns-in-TakeFree c = rw (c.in-TakeFree.is, c.close-in-TakeFree.ensures, c.freed_status.ensures)
