use Prim.Native.Nat.{◌+◌, ◌-◌}
use lib.ListN.{length}
use lib.Seq.{sets}
use mathlib.Core.List.{map}
use mathlib.Core.Path.{◌≡◌}
use Rattle.form.specs.declared.Due.TheVariants.{WeightDue}
use Rattle.texts.specs.Schedule.{lines_from, weight_in, weights_at}
use Rattle.fresh.proofs.read_weights.Given as goal

-- the weights that are left, after so many in the room, come to all of them
abbrev pub invariant-loop-n : goal.invariant-loop-n
invariant-loop-n l =
    let left = map weight_in (lines_from (l.count - l.n) WeightDue l.text l.at) in
    (sets l.room l.n left ≡ sets l.initial.room 0 (weights_at l.text l.fn.s)) × (l.n + length left ≡ length (weights_at l.text l.fn.s))
