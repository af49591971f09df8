-- The paper's number of each reason for which a step or an opening is refused. Assumes nothing.
use Rattle.std.specs.Prelude.{ℕ, Option, Some, None}
use Rattle.step.specs.declared.Reason.{Reason}
use Rattle.step.specs.declared.Reason.TheVariants.{OutOfRange, StepsTaken, NoSuchThread, NotDue, NoSuchCell, TooGreat, NoRecordFree, Outdated, Amiss, CannotStand}

-- 5: T, C or a number of cells or flags out of range; 6: "4,096 steps already taken"; 7: "thread 0 or above T"; 8: "a call or access begun
-- inside a call; go while idle; go with a stamp where none is due, or without where one is"; 9: "cell or flag 0 or above this machine's
-- number"; 10: "a weight or stamp above 1,000,000,000"; 11: "a plain write with no record free"; 12: "read: stamp below the thread's view;
-- write: not above it"; 13: "read: no write with that stamp; write: that stamp in the history"; 14: the state cannot stand
abbrev pub number : Reason → ℕ
number OutOfRange = 5
number StepsTaken = 6
number NoSuchThread = 7
number NotDue = 8
number NoSuchCell = 9
number TooGreat = 10
number NoRecordFree = 11
number Outdated = 12
number Amiss = 13
number CannotStand = 14

-- and of a reason, if there is one: 0 where nothing is refused
abbrev pub number_by : Option Reason → ℕ
number_by None = 0
number_by (Some r) = number r
