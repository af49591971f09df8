-- The machine with one field replaced. Assumes nothing.
use Rattle.std.specs.Prelude.{List, ℕ}
use Rattle.state.specs.declared.Atomic.{Atomic}
use Rattle.state.specs.declared.Machine.{Machine}
use Rattle.state.specs.declared.Thread.{Thread}
use Rattle.view.specs.declared.View.{View}

abbrev pub with_steps : Machine → ℕ → Machine
with_steps m x = record { shape = m.shape; steps = x; held = m.held; firsts = m.firsts; views = m.views; threads = m.threads; flags = m.flags; head = m.head; tail = m.tail; statuses = m.statuses }

abbrev pub with_held : Machine → ℕ → Machine
with_held m x = record { shape = m.shape; steps = m.steps; held = x; firsts = m.firsts; views = m.views; threads = m.threads; flags = m.flags; head = m.head; tail = m.tail; statuses = m.statuses }

abbrev pub with_views : Machine → List View → Machine
with_views m x = record { shape = m.shape; steps = m.steps; held = m.held; firsts = m.firsts; views = x; threads = m.threads; flags = m.flags; head = m.head; tail = m.tail; statuses = m.statuses }

abbrev pub with_threads : Machine → List Thread → Machine
with_threads m x = record { shape = m.shape; steps = m.steps; held = m.held; firsts = m.firsts; views = m.views; threads = x; flags = m.flags; head = m.head; tail = m.tail; statuses = m.statuses }

abbrev pub with_flags : Machine → List Atomic → Machine
with_flags m x = record { shape = m.shape; steps = m.steps; held = m.held; firsts = m.firsts; views = m.views; threads = m.threads; flags = x; head = m.head; tail = m.tail; statuses = m.statuses }

abbrev pub with_head : Machine → Atomic → Machine
with_head m x = record { shape = m.shape; steps = m.steps; held = m.held; firsts = m.firsts; views = m.views; threads = m.threads; flags = m.flags; head = x; tail = m.tail; statuses = m.statuses }

abbrev pub with_tail : Machine → Atomic → Machine
with_tail m x = record { shape = m.shape; steps = m.steps; held = m.held; firsts = m.firsts; views = m.views; threads = m.threads; flags = m.flags; head = m.head; tail = x; statuses = m.statuses }

abbrev pub with_statuses : Machine → List Atomic → Machine
with_statuses m x = record { shape = m.shape; steps = m.steps; held = m.held; firsts = m.firsts; views = m.views; threads = m.threads; flags = m.flags; head = m.head; tail = m.tail; statuses = x }
