use Rattle.writes.proofs.stand_still.Goals as goal

pub returns-then-judged : goal.returns-then-judged
returns-then-judged c = rw (c.if-judged.true, c.both.ensures, c.record_stands.ensures)

pub returns : goal.returns
returns c = rw c.if-judged.false
