use mathlib.Core.Path.{sym, ◌∙◌}
use Rattle.form.proofs.fields_of.Goals as goal

pub returns-in-HeaderLine : goal.returns-in-HeaderLine
returns-in-HeaderLine c = rw (c.in-HeaderLine.is, c.header_form.ensures)

pub returns-in-WeightLine : goal.returns-in-WeightLine
returns-in-WeightLine c = rw c.in-WeightLine.is

pub returns-in-StepLine : goal.returns-in-StepLine
returns-in-StepLine c = c.step_fields.ensures ∙ sym (rw c.in-StepLine.is)
