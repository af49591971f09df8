use mathlib.Core.Path.{◌≡◌}
use lib.ListN.{drop}
use Rattle.operand.specs.Operand.{word}
use Rattle.operand.proofs.read_word.Given as goal

abbrev pub invariant-loop-b : goal.invariant-loop-b
invariant-loop-b l = word (drop l.b-index l.w) l.text l.at ≡ word l.w l.text l.from
