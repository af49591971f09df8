use mathlib.Core.Path.{◌≡◌}
use Prim.Native.Nat.{◌+◌, ◌-◌, ◌*◌, ◌^◌, ◌≤◌}
use Rattle.digits.specs.Reading.{digits}
use Rattle.digits.proofs.read_digits.Given as goal

abbrev pub invariant-loop-taken : goal.invariant-loop-taken
invariant-loop-taken l =
    (digits (l.most - l.taken) l.may l.text l.at l.v ≡ digits l.most l.may l.text l.from l.start)
    × ((l.v + 1) * 10 ^ (l.most - l.taken) ≤ 10 ^ 10)
