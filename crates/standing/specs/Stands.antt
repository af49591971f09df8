-- Which states can stand: refusal 14. Assumes nothing.
use Rattle.std.specs.Prelude.{Bool, List, ℕ, leb, length}
use Rattle.laws.specs.Tests.{◌and◌}
use Rattle.parts.specs.Parts.{parts_stand}
use Rattle.state.specs.State.{cells_of}
use Rattle.state.specs.declared.Machine.{Machine}
use Rattle.state.specs.declared.Shape.{Shape}
use Rattle.writes.specs.History.{records_stand}
use Rattle.writes.specs.declared.Write.{Write}

-- Threads T: 1 to 8. Slots C: 1 to 16. Plain cells: 0 to 16. Flags: 0 to 8.
unfoldable pub in_shape : ℕ → ℕ → ℕ → ℕ → Bool
in_shape t c n f = ((leb 1 t and leb t 8) and (leb 1 c and leb c 16)) and (leb n 16 and leb f 8)

-- T, C and the two numbers are in range
unfoldable pub shape_stands : Shape → Bool
shape_stands s = in_shape s.threads s.slots s.plain s.flags

-- steps at most 4,096; held writes at most 1,024; the list is not shorter than its held count
unfoldable pub sizes_stand : Machine → ℕ → Bool
sizes_stand m lent = shape_stands m.shape and (leb m.steps 4096 and (leb m.held 1024 and leb m.held lent))

-- A state stands, and its list with it.
unfoldable pub stands : Machine → List Write → Bool
stands m ws = sizes_stand m (length ws) and (parts_stand m and records_stand (cells_of m) ws m.held)
