use Rattle.asking.proofs.judged_unless.Goals as goal

pub returns-then-known : goal.returns-then-known
returns-then-known c = rw (c.if-known.true, c.unjudged.ensures)

pub returns : goal.returns
returns c = rw c.if-known.false
