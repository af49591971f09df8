use mathlib.Core.Path.{sym, ◌∙◌}
use native.Mathlib.Omega.{arith}
use borrow.Author.Rules.{rules}
use Rattle.digits.proofs.Digits.{number_bound}
use Rattle.digits.specs.Reading.{weight}
use Rattle.digits.proofs.read_weight.Goals as goal

pub returns-in_err-whole : goal.returns-in_err-whole
unfolding weight
returns-in_err-whole c = search rules

pub read_digits-requires : goal.read_digits-requires
read_digits-requires c = omega (arith, number_bound _ _ _ _ (sym c.read_number.ensures ∙ c.in_ok-whole.was))

pub returns-then-byte_at-eq46 : goal.returns-then-byte_at-eq46
unfolding weight
returns-then-byte_at-eq46 c = search rules

pub returns-else-byte_at-eq46 : goal.returns-else-byte_at-eq46
unfolding weight
returns-else-byte_at-eq46 c = search rules
