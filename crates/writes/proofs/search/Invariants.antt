use mathlib.Core.Path.{◌≡◌}
use lib.ListN.{take}
use Rattle.writes.specs.Searched.{searched}
use Rattle.writes.proofs.search.Given as goal

-- what was found in the records so far
abbrev pub invariant-loop-w : goal.invariant-loop-w
invariant-loop-w l = l.q ≡ searched l.initial.q (take l.w-index l.w-items)
