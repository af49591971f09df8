use native.Mathlib.Omega.{arith}
use Rattle.form.specs.Text.{operand_text}
use Rattle.measure.proofs.Widths.{number_short, weight_short}
use Rattle.measure.proofs.operand_width.Goals as goal

pub overflow_add-result : goal.overflow_add-result
overflow_add-result c = omega (arith, number_short c.args.v c.ranges.v.fits)

pub overflow_add-result-in-Thousandths : goal.overflow_add-result-in-Thousandths
overflow_add-result-in-Thousandths c = omega (arith, weight_short c.args.v c.ranges.v.fits)

pub returns-in-Nothing : goal.returns-in-Nothing
unfolding operand_text
returns-in-Nothing c = rw c.in-Nothing.is

pub returns-in-Count : goal.returns-in-Count
unfolding operand_text
returns-in-Count c = rw c.in-Count.is (omega arith)

pub returns-in-Thousandths : goal.returns-in-Thousandths
unfolding operand_text
returns-in-Thousandths c = rw c.in-Thousandths.is (omega arith)
