use mathlib.Core.Path.{◌≡◌}
use Prim.Native.Nat.{◌+◌, ◌-◌}
use Rattle.line.specs.Row.{find_form}
use Rattle.line.proofs.find_form.Given as goal

abbrev pub invariant-loop-form : goal.invariant-loop-form
invariant-loop-form l =
    find_form (l.from + l.count - l.form) l.form l.far l.text l.lead ≡ find_form l.count l.from l.start l.text l.lead
