use borrow.Author.Rules.{rules}
use Rattle.digits.specs.Reading.{number}
use Rattle.digits.proofs.read_number.Goals as goal

pub returns-then-byte_at-eq48 : goal.returns-then-byte_at-eq48
unfolding number
returns-then-byte_at-eq48 c = search rules

pub returns : goal.returns
unfolding number
returns c = search rules
