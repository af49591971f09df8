use borrow.Author.Tests.{lt-ltb, le-ltb}
use Rattle.state.specs.State.{first_of}
use Rattle.state.proofs.first_of.Goals as goal

pub returns-then-i-m : goal.returns-then-i-m
unfolding first_of
returns-then-i-m c = rw (lt-ltb _ _ c.if-i-m.true) c.item_in.ensures

pub returns-else-i-m : goal.returns-else-i-m
unfolding first_of
returns-else-i-m c = rw (le-ltb _ _ c.if-i-m.false)
