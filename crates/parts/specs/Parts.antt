-- What the parts of a state must be so that it can stand. Assumes nothing.
use Rattle.std.specs.Prelude.{Bool, ℕ, ◌+◌, ◌*◌, leb}
use Rattle.laws.specs.Tests.{◌and◌, all_below}
use Rattle.places.specs.Places.{place_stands}
use Rattle.state.specs.State.{cells_of, row, place, atomic_at, first_of}
use Rattle.state.specs.declared.Atomic.{Atomic}
use Rattle.state.specs.declared.Machine.{Machine}
use Rattle.state.specs.declared.Name.{Name}
use Rattle.state.specs.declared.Name.TheVariants.{Flag, Status}
use Rattle.step.specs.Limit.{most}
use Rattle.view.specs.View.{view_stands}

-- of a thread that there is: what it notes, and every stamp of its view
unfoldable pub thread_stands : Machine → ℕ → Bool
thread_stands m i = place_stands m.steps (place m i) and view_stands (cells_of m) (row m i)

unfoldable pub threads_stand : Machine → Bool
threads_stand m = all_below (thread_stands m) m.shape.threads

-- the first value of every plain cell
unfoldable pub firsts_stand : Machine → Bool
firsts_stand m = all_below (λ i. leb (first_of m i) most) m.shape.plain

-- an atomic cell's value is at most so much, and every stamp of its view is in range
unfoldable pub atomic_stands : ℕ → ℕ → Atomic → Bool
atomic_stands k high a = leb a.value high and view_stands k a.view

unfoldable pub atomics_stand : Machine → (ℕ → Name) → ℕ → ℕ → Bool
atomics_stand m name n high = all_below (λ i. atomic_stands (cells_of m) high (atomic_at m (name i))) n

-- head and tail at most the steps taken; every status at most 2(steps + C) + 1; every flag's value in range
unfoldable pub cells_stand : Machine → Bool
cells_stand m =
    atomics_stand m Flag m.shape.flags most
    and (atomic_stands (cells_of m) m.steps m.head
    and (atomic_stands (cells_of m) m.steps m.tail
    and atomics_stand m Status m.shape.slots (2 * (m.steps + m.shape.slots) + 1)))

unfoldable pub parts_stand : Machine → Bool
parts_stand m = threads_stand m and (firsts_stand m and cells_stand m)
