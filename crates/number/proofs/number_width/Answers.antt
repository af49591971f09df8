use native.Mathlib.Omega.{arith}
use Rattle.number.proofs.Decimal.{length_log}
use Rattle.number.proofs.number_width.Goals as goal

pub returns : goal.returns
returns c =
    omega (arith, length_log c.ilog10.result c.args.v (omega (arith, c.max.ensures)) (omega (arith, c.max.ensures)))
