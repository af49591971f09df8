use mathlib.Core.Path.{◌∙◌, sym}
use Rattle.turn.proofs.Steps.{ahead_none, ahead_read}
use Rattle.turn.specs.Going.{ahead_of}
use Rattle.turn.proofs.next_step.Goals as goal

pub returns-then-left-eq0 : goal.returns-then-left-eq0
unfolding ahead_of
returns-then-left-eq0 c = rw (ahead_none _ _ _ _ c.if-left-eq0.true) c.nothing_ahead.ensures

pub returns-in-Ok : goal.returns-in-Ok
unfolding ahead_of
returns-in-Ok c =
    let line = sym c.line_of.ensures ∙ c.in-Ok.is in
    rw (line, ahead_read _ _ _ _ c.if-left-eq0.false, c.step_in-step.ensures)

pub returns-in-Err : goal.returns-in-Err
unfolding ahead_of
returns-in-Err c =
    let fault = sym c.line_of.ensures ∙ c.in-Err.is in
    rw (fault, ahead_read _ _ _ _ c.if-left-eq0.false) c.nothing_ahead-in-Err.ensures
