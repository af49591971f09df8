use mathlib.Core.Path.{sym, ◌∙◌}
use Prim.Native.Nat.{◌+◌, ◌-◌}
use native.Mathlib.Omega.{arith}
use Rattle.line.proofs.Laws.{find_end, find_here}
use Rattle.line.proofs.find_form.Goals as goal

pub returns-in-Ok : goal.returns-in-Ok
returns-in-Ok c =
    let left = c.args.from + c.args.count - (c.loop-form.form + 1) in
    sym (find_here _ _ _ _ _ left _ (omega arith) (sym c.read_form.ensures ∙ c.in-Ok.is)) ∙ c.loop-form.invariant

pub loop-form-preserved : goal.loop-form-preserved
loop-form-preserved c =
    rw c.max-far.ensures (sym (find_here _ _ _ _ _ _ _ (omega arith) (sym c.read_form.ensures ∙ c.in-Err.is)) ∙ c.loop-form.invariant)

pub returns : goal.returns
returns c = sym (find_end _ _ _ _ _ (omega arith)) ∙ c.loop-form.invariant
