-- The memory steps on atomic cells, over a cell's name. Assumes nothing.
use Rattle.std.specs.Prelude.{Bool, true, false, ℕ, eqb}
use Rattle.atomic.specs.declared.Swapped.{Swapped}
use Rattle.state.specs.State.{atomic, cells_of, row, with_row, atomic_at, with_atomic}
use Rattle.state.specs.declared.Machine.{Machine}
use Rattle.state.specs.declared.Name.{Name}
use Rattle.view.specs.View.{joined}
use Rattle.view.specs.declared.View.{View}

-- the join of thread i's view and the cell's, over the machine's own cells: what the thread gets, and what the cell gets.
-- They differ at most in room that this machine lacks, where each keeps its own.
unfoldable pub met : Machine → ℕ → Name → View
met m i a = joined (cells_of m) (row m i) (atomic_at m a).view

unfoldable pub told : Machine → ℕ → Name → View
told m i a = joined (cells_of m) (atomic_at m a).view (row m i)

-- Atomic read: the thread's view becomes its join with the cell's.
unfoldable pub read_atomic : Machine → ℕ → Name → Machine
read_atomic m i a = with_row m i (met m i a)

-- Atomic write: thread and cell both get the join; the value is replaced.
unfoldable pub write_atomic : Machine → ℕ → Name → ℕ → Machine
write_atomic m i a x = with_atomic (with_row m i (met m i a)) a (atomic x (told m i a))

abbrev pub swap_if : Bool → Machine → ℕ → Name → ℕ → Swapped
swap_if true m i a new = record { won = true; machine = write_atomic m i a new }
swap_if false m i a new = record { won = false; machine = read_atomic m i a }

-- Swap: won where the value equals the old one given, an atomic write; otherwise lost, an atomic read.
unfoldable pub swapped_of : Machine → ℕ → Name → ℕ → ℕ → Swapped
swapped_of m i a old new = swap_if (eqb (atomic_at m a).value old) m i a new
