-- What thread and cell get by an atomic step covers what either had. Assumes nothing.
use mathlib.Core.Path.{◌≡◌}
use Prim.Native.Nat.{ℕ, ◌<◌, max}
use native.Mathlib.Omega.{arith}
use Rattle.atomic.specs.Atomic.{met, told}
use Rattle.rules.specs.Queue.{Covers}
use Rattle.standing.proofs.Bounds.{Bounds}
use Rattle.state.specs.State.{cells_of, row, atomic_at, Whole}
use Rattle.state.specs.declared.Machine.{Machine}
use Rattle.state.specs.declared.Name.{Name}
use Rattle.view.proofs.Joined.{join_here}
use Rattle.view.specs.View.{stamp_of}

module _ (m : Machine) (i : ℕ) (a : Name) (W : Whole m) (B : Bounds m.shape) where
  -- the larger stamp, cell by cell
  pub met_here : (j : ℕ) → j < cells_of m → stamp_of (met m i a) j ≡ max (stamp_of (row m i) j) (stamp_of (atomic_at m a).view j)
  unfolding met cells_of
  met_here j l = join_here (cells_of m) (row m i) (atomic_at m a).view j l (omega (arith, W.rows i, B.plain, B.slots))

  pub told_here : (j : ℕ) → j < cells_of m → stamp_of (told m i a) j ≡ max (stamp_of (atomic_at m a).view j) (stamp_of (row m i) j)
  unfolding told cells_of
  told_here j l = join_here (cells_of m) (atomic_at m a).view (row m i) j l (omega (arith, W.seen a, B.plain, B.slots))

  pub met_own : Covers (cells_of m) (met m i a) (row m i)
  met_own j l = omega (arith, met_here j l)

  pub met_cell : Covers (cells_of m) (met m i a) (atomic_at m a).view
  met_cell j l = omega (arith, met_here j l)

  pub told_own : Covers (cells_of m) (told m i a) (row m i)
  told_own j l = omega (arith, told_here j l)

  pub told_met : Covers (cells_of m) (told m i a) (met m i a)
  told_met j l = omega (arith, told_here j l, met_here j l)
