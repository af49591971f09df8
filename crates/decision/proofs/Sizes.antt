-- The sizes that the step's arithmetic leans on, from a state whose sizes stand. Assumes nothing.
use mathlib.Core.Path.{◌≡◌}
use mathlib.Core.Bool.{true}
use Prim.Native.Nat.{ℕ}
use Rattle.decision.specs.Bounds.{Sized}
use Rattle.standing.proofs.Bounds.{sizes}
use Rattle.standing.specs.Stands.{sizes_stand}
use Rattle.state.specs.declared.Machine.{Machine}

pub sized : (m : Machine) (lent : ℕ) → sizes_stand m lent ≡ true → Sized m
sized m lent e =
    let z = sizes m lent e in
    record { slots = z.shape.slots; steps = z.steps; held = z.held }
