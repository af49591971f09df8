use Rattle.form.proofs.due_of.Goals as goal

pub returns-in-HeaderLine : goal.returns-in-HeaderLine
returns-in-HeaderLine c = rw c.in-HeaderLine.is
