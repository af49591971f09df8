-- The sizes that the numbers of slots' cells lean on, from a state whose sizes stand. Assumes nothing.
use mathlib.Core.Path.{◌≡◌}
use mathlib.Core.Bool.{true}
use Prim.Native.Nat.{ℕ}
use Rattle.asking.specs.Bounds.{Small}
use Rattle.standing.proofs.Bounds.{sizes}
use Rattle.standing.specs.Stands.{sizes_stand}
use Rattle.state.specs.declared.Machine.{Machine}

pub small : (m : Machine) (lent : ℕ) → sizes_stand m lent ≡ true → Small m.shape
small m lent e =
    let w = (sizes m lent e).shape in
    record { some = w.some_slot; slots = w.slots; plain = w.plain }
