use mathlib.Core.Path.{ap, sym}
use mathlib.Core.List.{List}
use lib.ListN.{replicate}
use Rattle.run.proofs.Runs.{Nearer, none_asked, way_begins, way_goes, way_ends}
use Rattle.run.specs.Run.{ran}
use Rattle.texts.specs.Schedule.{steps_at}
use Rattle.writes.specs.Records.{no_write}
use Rattle.writes.specs.declared.Write.{Write}
use Rattle.run.proofs.run_steps.Goals as goal
use Rattle.run.proofs.run_steps.Goals.{After-go_on-g}

pub loop-g-init : goal.loop-g-init
loop-g-init c =
    way_begins c.args.s c.begin-g.ensures
    (ap (λ (ws : List Write). ran c.args.m ws (steps_at c.args.text.now c.args.s)) (sym c.no_writes-ws.ensures))

-- a turn's step is taken or refused, and either way fewer are ahead
nearer : (c : After-go_on-g) → Nearer c.args.text.now c.step_by-done.result.machine c.loop-g.g c.go_on-g.result c.step_by-done.new.ws c.go_on-g.new.out
    (ran c.args.m (replicate 1024 no_write) (steps_at c.args.text.now c.args.s)) c.args.out.now
nearer c = way_goes c.loop-g.invariant c.in-Some.is c.step_by-done.ensures c.go_on-g.ensures

pub loop-g-smaller : goal.loop-g-smaller
loop-g-smaller c = (nearer (goal.at.loop-g-smaller c).After-go_on-g).1

pub loop-g-preserved : goal.loop-g-preserved
loop-g-preserved c = (nearer (goal.at.loop-g-preserved c).After-go_on-g).0

pub returns : goal.returns
returns c = rw c.finish.ensures (way_ends c.loop-g.invariant (none_asked c.loop-g.g.ahead.asked (λ a e. c.in_default.not-Some a e)))
