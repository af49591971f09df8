use Rattle.form.proofs.line_of.Goals as goal

pub returns-in-HeaderDue : goal.returns-in-HeaderDue
returns-in-HeaderDue c = rw c.in-HeaderDue.is

pub returns-in-WeightDue : goal.returns-in-WeightDue
returns-in-WeightDue c = rw c.in-WeightDue.is

pub returns-in-StepDue : goal.returns-in-StepDue
returns-in-StepDue c = rw (c.in-StepDue.is, c.verb_of.ensures)
