use native.Mathlib.Omega.{arith}
use Rattle.form.specs.Text.{lead_text}
use Rattle.number.proofs.Decimal.{length_snoc}
use Rattle.number.specs.Text.{number_text}
use Rattle.measure.proofs.Widths.{number_short}
use Rattle.measure.proofs.lead_width.Goals as goal

pub overflow_add-result : goal.overflow_add-result
overflow_add-result c = omega (arith, number_short c.args.v c.ranges.v.fits)

pub returns-in-Nothing : goal.returns-in-Nothing
unfolding lead_text
returns-in-Nothing c = rw c.in-Nothing.is

pub returns-in-Count : goal.returns-in-Count
unfolding lead_text
returns-in-Count c = rw c.in-Count.is (omega (arith, length_snoc (number_text c.args.v) 32))

pub returns-in-Thousandths : goal.returns-in-Thousandths
unfolding lead_text
returns-in-Thousandths c = rw c.in-Thousandths.is c.weight_width.ensures
