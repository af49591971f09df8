-- A reason's number is at most 14, and the number of an answer is that of its refusal. Assumes nothing.
use mathlib.Core.Path.{◌≡◌, refl}
use Prim.Native.Nat.{ℕ, zero, suc, ◌<◌, ◌≤◌}
use native.Mathlib.Omega.{arith}
use Rattle.std.specs.Prelude.{Some}
use Rattle.step.specs.Answer.{number_of}
use Rattle.step.specs.Reason.{number}
use Rattle.step.specs.Refused.{if_any, refused_in, number_in}
use Rattle.step.specs.declared.Answer.{Answer}
use Rattle.step.specs.declared.Reason.{Reason}
use Rattle.step.specs.declared.Reason.TheVariants.{OutOfRange, StepsTaken, NoSuchThread, NotDue, NoSuchCell, TooGreat, NoRecordFree, Outdated, Amiss, CannotStand}

pub up_to_14 : (r : Reason) → number r ≤ 14
up_to_14 OutOfRange = omega arith
up_to_14 StepsTaken = omega arith
up_to_14 NoSuchThread = omega arith
up_to_14 NotDue = omega arith
up_to_14 NoSuchCell = omega arith
up_to_14 TooGreat = omega arith
up_to_14 NoRecordFree = omega arith
up_to_14 Outdated = omega arith
up_to_14 Amiss = omega arith
up_to_14 CannotStand = omega arith

by_any : (n : ℕ) → n ≡ number_in (if_any n)
by_any zero = refl
by_any (suc n) = refl

pub by_refusal : (a : Answer) → number_of a ≡ number_in (refused_in a)
by_refusal a = by_any (number_of a)

any_above : (n k : ℕ) → if_any n ≡ Some k → 0 < k
any_above zero k e = absurd cc
any_above (suc n) k e = let z : suc n ≡ k = cc in omega arith

-- a refusal's number is above 0
pub refusal_above : (a : Answer) (k : ℕ) → refused_in a ≡ Some k → 0 < k
refusal_above a k e = any_above (number_of a) k e
