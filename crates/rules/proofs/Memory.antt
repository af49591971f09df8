-- The memory steps on atomic cells keep a state fitting. Assumes nothing.
use mathlib.Core.Path.{◌≡◌}
use mathlib.Core.Bool.{Bool, true, false}
use mathlib.Core.List.{List}
use Prim.Native.Nat.{ℕ, ◌<◌, ◌≤◌}
use lib.Dec.{eqb}
use Rattle.atomic.specs.Atomic.{met, told, read_atomic, write_atomic, swap_if, swapped_of}
use Rattle.rules.proofs.Parts.{Known, highest, atomic_at_lem, row_fits, atomic_fits}
use Rattle.rules.proofs.Standing.{Fits}
use Rattle.rules.proofs.Views.{joined_stands}
use Rattle.state.specs.State.{cells_of, with_row, atomic_at}
use Rattle.state.specs.declared.Machine.{Machine}
use Rattle.state.specs.declared.Name.{Name}
use Rattle.view.specs.View.{view_stands}
use Rattle.writes.specs.declared.Write.{Write}

module _ (n : ℕ) (m : Machine) (ws : List Write) (fits : Fits n m ws) (i : ℕ) (l : i < m.shape.threads) where
  -- the join of the thread's view and the cell's, as the thread gets it and as the cell does
  met_stands : (a : Name) → Known m.shape a → view_stands (cells_of m) (met m i a) ≡ true
  unfolding met
  met_stands a h = joined_stands _ _ _ (fits.rows i l) (atomic_at_lem n m ws fits a h).1

  told_stands : (a : Name) → Known m.shape a → view_stands (cells_of m) (told m i a) ≡ true
  unfolding told
  told_stands a h = joined_stands _ _ _ (atomic_at_lem n m ws fits a h).1 (fits.rows i l)

  -- an atomic read
  pub read_fits : (a : Name) → Known m.shape a → Fits n (read_atomic m i a) ws
  unfolding read_atomic
  read_fits a h = row_fits n m ws i _ fits (met_stands a h)

  -- an atomic write of a value that the cell may have
  pub write_fits : (a : Name) (x : ℕ) → Known m.shape a → x ≤ highest m.shape n a → Fits n (write_atomic m i a x) ws
  unfolding write_atomic with_row cells_of read_atomic
  write_fits a x h r = atomic_fits n (with_row m i (met m i a)) ws a _ (read_fits a h) (r, told_stands a h)

  -- a swap, won or lost
  pub swap_fits : (a : Name) (old new : ℕ) → Known m.shape a → new ≤ highest m.shape n a → Fits n (swapped_of m i a old new).machine ws
  unfolding swapped_of
  swap_fits a old new h r = go (eqb (atomic_at m a).value old)
    where
      go : (b : Bool) → Fits n (swap_if b m i a new).machine ws
      go true = write_fits a new h r
      go false = read_fits a h
