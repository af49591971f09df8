use Rattle.turn.proofs.begin.Goals as goal

pub returns : goal.returns
returns c = rw c.next_step-ahead.ensures
