use Rattle.decision.proofs.content_if.Goals as goal

pub returns-then-not-stand : goal.returns-then-not-stand
returns-then-not-stand c = rw (c.if-not-stand.true, c.number-number.ensures)

pub returns-then-published : goal.returns-then-published
returns-then-published c = rw (c.if-not-stand.false, c.if-published.true)

pub returns : goal.returns
returns c = rw (c.if-not-stand.false, c.if-published.false)
