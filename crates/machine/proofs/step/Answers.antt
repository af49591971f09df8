use mathlib.Core.Path.{◌∙◌}
use Rattle.decision.proofs.Known.{unknown_step}
use Rattle.machine.proofs.step.Goals as goal

pub returns : goal.returns
returns c = c.step_by.ensures ∙ unknown_step c.args.m c.args.ws.now c.args.step
