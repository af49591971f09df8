use mathlib.Core.Path.{sym}
use Prim.Native.Nat.{◌+◌, ◌≤◌}
use native.Mathlib.Omega.{arith}
use Rattle.measure.proofs.Widths.{length_form, form_short}
use Rattle.measure.proofs.form_width.Goals as goal
use Rattle.measure.proofs.form_width.Goals.{After-operand_width-z}

pub returns : goal.returns
returns c =
    rw (c.word_width-w.ensures, c.operand_width-x.ensures, c.operand_width-y.ensures, c.operand_width-z.ensures, c.form_at-row.ensures)
    (sym (length_form _ _ _ _))

-- each sum is at most the whole
bound : (c : After-operand_width-z) → c.word_width-w.result + (c.operand_width-x.result + (c.operand_width-y.result + (c.operand_width-z.result + 1))) ≤ 53
bound c =
    omega (arith, returns c, form_short c.args.form c.args.a c.args.b c.args.c c.ranges.a.fits c.ranges.b.fits c.ranges.c.fits)

pub overflow_add-result : goal.overflow_add-result
overflow_add-result c = omega (arith, bound (goal.at.overflow_add-result c).After-operand_width-z)

pub overflow_add-result-2 : goal.overflow_add-result-2
overflow_add-result-2 c = omega (arith, bound (goal.at.overflow_add-result-2 c).After-operand_width-z)

pub overflow_add-result-3 : goal.overflow_add-result-3
overflow_add-result-3 c = omega (arith, bound (goal.at.overflow_add-result-3 c).After-operand_width-z)

pub overflow_add-result-4 : goal.overflow_add-result-4
overflow_add-result-4 c = omega (arith, bound (goal.at.overflow_add-result-4 c).After-operand_width-z)
