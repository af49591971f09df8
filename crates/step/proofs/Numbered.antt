-- Every reason has a number above 0. Assumes nothing.
use mathlib.Core.Path.{◌≡◌, refl}
use Prim.Native.Nat.{◌<◌}
use native.Mathlib.Omega.{arith}
use Rattle.std.specs.Prelude.{Option, Some, None}
use Rattle.step.specs.Reason.{number, number_by}
use Rattle.step.specs.declared.Reason.{Reason}
use Rattle.step.specs.declared.Reason.TheVariants.{OutOfRange, StepsTaken, NoSuchThread, NotDue, NoSuchCell, TooGreat, NoRecordFree, Outdated, Amiss, CannotStand}

pub above_zero : (r : Reason) → 0 < number r
above_zero OutOfRange = omega arith
above_zero StepsTaken = omega arith
above_zero NoSuchThread = omega arith
above_zero NotDue = omega arith
above_zero NoSuchCell = omega arith
above_zero TooGreat = omega arith
above_zero NoRecordFree = omega arith
above_zero Outdated = omega arith
above_zero Amiss = omega arith
above_zero CannotStand = omega arith

-- 0 is no reason's number
pub no_reason : (o : Option Reason) → number_by o ≡ 0 → o ≡ None
no_reason None e = refl
no_reason (Some r) e = absurd (omega (arith, above_zero r))
