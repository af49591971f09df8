use Prim.Native.Nat.{◌+◌, ◌-◌}
use mathlib.Core.Path.{◌≡◌}
use Rattle.printed.specs.Printed.{page, put_lines}
use Rattle.reported.specs.Report.{rank_lines}
use Rattle.reported.proofs.put_ranks.Given as goal

abbrev pub invariant-loop-i : goal.invariant-loop-i
invariant-loop-i l =
    put_lines (page l.w l.out) (rank_lines l.m l.ws (l.count - l.i) (l.first + l.i))
    ≡ put_lines (page l.initial.w l.initial.out) (rank_lines l.m l.ws l.count l.first)
