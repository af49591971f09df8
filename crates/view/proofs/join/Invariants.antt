use mathlib.Core.Path.{◌≡◌}
use Rattle.view.specs.View.{join_to}
use Rattle.view.proofs.join.Given as goal

abbrev pub invariant-loop-i : goal.invariant-loop-i
invariant-loop-i l = l.v.at ≡ join_to l.i l.initial.v.at l.fn.b.at
