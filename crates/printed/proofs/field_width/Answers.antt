use mathlib.Core.Path.{refl}
use native.Mathlib.Omega.{arith}
use Rattle.number.proofs.Decimal.{length_pow}
use Rattle.printed.proofs.Laws.{weight_fits, word_fits}
use Rattle.printed.specs.Printed.{field_text}
use Rattle.printed.proofs.field_width.Goals as goal

pub returns-in-Says : goal.returns-in-Says
unfolding field_text
returns-in-Says c = rw c.in-Says.is (rw c.letters.ensures refl, rw c.letters.ensures (word_fits _))

pub returns-in-Counts : goal.returns-in-Counts
unfolding field_text
returns-in-Counts c = rw c.in-Counts.is (c.number_width.ensures, rw c.number_width.ensures (length_pow 19 _ (omega arith)))

pub returns-in-Weighs : goal.returns-in-Weighs
unfolding field_text
returns-in-Weighs c = rw c.in-Weighs.is (c.weight_width.ensures, rw c.weight_width.ensures (weight_fits _ (omega arith)))
