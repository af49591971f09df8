use mathlib.Core.Path.{sym, ◌∙◌}
use Rattle.opening.specs.Opening.{opened_of}
use Rattle.standing.proofs.Bounds.{within_shape}
use Rattle.opening.proofs.opening.Goals as goal

pub returns-then-not-shaped : goal.returns-then-not-shaped
unfolding opened_of
returns-then-not-shaped c = rw (c.refused.ensures, ← c.in_shape-shaped.ensures, c.if-not-shaped.true)

pub returns-then-not-weighed : goal.returns-then-not-weighed
unfolding opened_of
returns-then-not-weighed c = rw (c.refused-then-not-weighed.ensures, ← c.in_shape-shaped.ensures, c.if-not-shaped.false, ← c.weights_stand.ensures, ← c.weights_stand-2.ensures, ← c.both-weighed.ensures, c.if-not-weighed.true)

pub fresh_machine-machine-requires : goal.fresh_machine-machine-requires
fresh_machine-machine-requires c =
    let w = within_shape _ _ _ _ (sym c.in_shape-shaped.ensures ∙ c.if-not-shaped.false) in
    (w.slots, w.plain, w.flags)

pub returns : goal.returns
unfolding opened_of
returns c = rw (c.fresh_machine-machine.ensures, ← c.in_shape-shaped.ensures, c.if-not-shaped.false, ← c.weights_stand.ensures, ← c.weights_stand-2.ensures, ← c.both-weighed.ensures, c.if-not-weighed.false)
