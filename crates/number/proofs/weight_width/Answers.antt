use Prim.Native.Nat.{◌/◌}
use native.Mathlib.Omega.{arith}
use Rattle.number.proofs.Decimal.{length_text, length_weight}
use Rattle.number.proofs.weight_width.Goals as goal

pub overflow_add-result : goal.overflow_add-result
overflow_add-result c = omega (arith, c.number_width.ensures, length_text (c.args.v / 1000))

pub returns : goal.returns
returns c = omega (arith, c.number_width.ensures, length_weight c.args.v)
