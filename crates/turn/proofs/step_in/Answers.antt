use Rattle.turn.proofs.step_in.Goals as goal

pub returns-in-HeaderLine : goal.returns-in-HeaderLine
returns-in-HeaderLine c = rw c.in-HeaderLine.is

pub returns-in-WeightLine : goal.returns-in-WeightLine
returns-in-WeightLine c = rw c.in-WeightLine.is
