use lib.ListN.{length, replicate}
use Rattle.run.proofs.Runs.{Way}
use Rattle.run.specs.Run.{ran}
use Rattle.texts.specs.Schedule.{steps_at}
use Rattle.turn.specs.Going.{asks}
use Rattle.writes.specs.Records.{no_write}
use Rattle.run.proofs.run_steps.Given as goal

-- what is left of the run comes to the whole
abbrev pub invariant-loop-g : goal.invariant-loop-g
invariant-loop-g l = Way l.text l.m l.g l.ws l.out (ran l.initial.m (replicate 1024 no_write) (steps_at l.text l.fn.s)) l.initial.out

-- the steps ahead get fewer
abbrev pub decreases-loop-g : goal.decreases-loop-g
decreases-loop-g l = length (asks l.text l.g.ahead)
