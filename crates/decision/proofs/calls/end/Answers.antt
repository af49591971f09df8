use Rattle.decision.proofs.calls.end.Goals as goal

pub returns : goal.returns
returns c = rw c.with_place-machine.ensures
