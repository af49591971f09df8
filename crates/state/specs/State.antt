-- What stands at each place of the machine, and the machine with one place changed. Assumes nothing.
use Rattle.std.specs.Prelude.{◌≡◌, Bool, true, false, ℕ, ◌+◌, ltb, length, get_or, set}
use Rattle.state.specs.Fields.{with_views, with_threads, with_flags, with_head, with_tail, with_statuses}
use Rattle.state.specs.declared.Atomic.{Atomic}
use Rattle.state.specs.declared.Machine.{Machine}
use Rattle.state.specs.declared.Name.{Name}
use Rattle.state.specs.declared.Name.TheVariants.{Head, Tail, Flag, Status}
use Rattle.state.specs.declared.Place.{Place}
use Rattle.state.specs.declared.Place.TheVariants.{Idle}
use Rattle.state.specs.declared.Thread.{Thread}
use Rattle.view.specs.View.{zero_view}
use Rattle.view.specs.declared.View.{View}

abbrev pub atomic : ℕ → View → Atomic
atomic x v = record { value = x; view = v }

abbrev pub zero_atomic : Atomic
zero_atomic = atomic 0 zero_view

abbrev pub at : Place → Thread
at p = record { place = p }

-- With N plain cells, a record names them 1 to N and slot i as N+1+i: as many cells have a view's stamp.
unfoldable pub cells_of : Machine → ℕ
cells_of m = m.shape.plain + m.shape.slots

-- The machine holds one view per thread as a table, thread by cell: the row of thread i, from 0.
unfoldable pub row : Machine → ℕ → View
row m i = get_or m.views i zero_view

-- one row replaced, all others kept
unfoldable pub with_row : Machine → ℕ → View → Machine
with_row m i v = with_views m (set m.views i v)

-- Each thread's record says whether it is idle or where in which call it stands.
unfoldable pub place : Machine → ℕ → Place
place m i = (get_or m.threads i (at Idle)).place

unfoldable pub with_place : Machine → ℕ → Place → Machine
with_place m i p = with_threads m (set m.threads i (at p))

-- An atomic cell holds one value and one view: each flag, head, tail and each slot's status.
unfoldable pub atomic_at : Machine → Name → Atomic
atomic_at m Head = m.head
atomic_at m Tail = m.tail
atomic_at m (Flag f) = get_or m.flags f zero_atomic
atomic_at m (Status s) = get_or m.statuses s zero_atomic

-- one atomic cell replaced, all others kept
unfoldable pub with_atomic : Machine → Name → Atomic → Machine
with_atomic m Head a = with_head m a
with_atomic m Tail a = with_tail m a
with_atomic m (Flag f) a = with_flags m (set m.flags f a)
with_atomic m (Status s) a = with_statuses m (set m.statuses s a)

abbrev pub given_if : Bool → ℕ → ℕ
given_if true v = v
given_if false v = 0

-- All begin with one write at stamp 0.000: a plain cell with its given value, an item slot with 0.000.
unfoldable pub first_of : Machine → ℕ → ℕ
first_of m i = given_if (ltb i m.shape.plain) (get_or m.firsts i 0)

-- The lists have the lengths of the arrays that they stand for.
pub record Whole (m : Machine) : Type 0 where
  pub firsts : length m.firsts ≡ 16
  pub views : length m.views ≡ 8
  pub threads : length m.threads ≡ 8
  pub flags : length m.flags ≡ 8
  pub statuses : length m.statuses ≡ 16
  pub rows : (i : ℕ) → length (row m i).at ≡ 32
  pub seen : (a : Name) → length (atomic_at m a).view.at ≡ 32
