-- The plain access that a step makes, if it makes one. Assumes nothing.
use Rattle.std.specs.Prelude.{List, ℕ, ◌+◌, ◌-◌, Option}
use Rattle.rank.specs.Rank.{slot_of}
use Rattle.state.specs.Fields.{with_held}
use Rattle.state.specs.State.{cells_of, row, with_row, first_of}
use Rattle.state.specs.declared.Machine.{Machine}
use Rattle.state.specs.declared.Place.{Place}
use Rattle.state.specs.declared.Place.TheVariants.{Idle, PutStatus, PutSwap, PutWrite, PutPublish, TakeStatus, TakeSwap, TakeRead, TakeFree}
use Rattle.state.specs.declared.Shape.{Shape}
use Rattle.step.specs.declared.Verb.{Verb}
use Rattle.step.specs.declared.Verb.TheVariants.{Get, Set, Load, Store, Swap, Put, Take, Go, GoAt}
use Rattle.view.specs.View.{with_stamp}
use Rattle.writes.specs.History.{found, search_of}
use Rattle.writes.specs.declared.Access.{Access}
use Rattle.writes.specs.declared.Access.TheVariants.{NoAccess, Reads, Writes}
use Rattle.writes.specs.declared.Looked.{Looked}
use Rattle.writes.specs.declared.Write.{Write}

-- With N plain cells, a record names them 1 to N and slot i as N+1+i. Rank k uses slot k mod C.
unfoldable pub slot_cell : Shape → ℕ → ℕ
slot_cell s k = s.plain + 1 + slot_of s.slots k

-- fourth of a put: plain write of w to the slot, stamped; fourth of a take: plain read of the slot, stamped
abbrev pub stamped_at : Shape → Place → ℕ → Access
stamped_at s Idle t = NoAccess
stamped_at s (PutStatus h w) t = NoAccess
stamped_at s (PutSwap h w) t = NoAccess
stamped_at s (PutWrite h w) t = Writes (slot_cell s h) t w
stamped_at s (PutPublish h) t = NoAccess
stamped_at s (TakeStatus k) t = NoAccess
stamped_at s (TakeSwap k) t = NoAccess
stamped_at s (TakeRead k) t = Reads (slot_cell s k) t
stamped_at s (TakeFree k w) t = NoAccess

-- `get cell stamp`, `set cell value stamp`, `go stamp` by the thread's place
abbrev pub access_of : Shape → Verb → Place → Access
access_of s (Get c t) p = Reads c t
access_of s (Set c v t) p = Writes c t v
access_of s (Load f) p = NoAccess
access_of s (Store f v) p = NoAccess
access_of s (Swap f u v) p = NoAccess
access_of s (Put w) p = NoAccess
access_of s Take p = NoAccess
access_of s Go p = NoAccess
access_of s (GoAt t) p = stamped_at s p t

abbrev pub cell_asked : Access → ℕ
cell_asked NoAccess = 0
cell_asked (Reads c t) = c
cell_asked (Writes c t v) = c

abbrev pub stamp_asked : Access → ℕ
stamp_asked NoAccess = 0
stamp_asked (Reads c t) = t
stamp_asked (Writes c t v) = t

-- what the cell's history has at the stamp
unfoldable pub found_by : Machine → List Write → Access → Option ℕ
found_by m ws a = found (first_of m (cell_asked a - 1)) ws (cell_asked a) (stamp_asked a) m.held

-- one search answers all that a step asks of the list
unfoldable pub looked_by : Machine → List Write → Access → Looked
looked_by m ws a = search_of (cells_of m) (first_of m (cell_asked a - 1)) ws (cell_asked a) (stamp_asked a) m.held

-- A plain read does not change the view. After a plain write at t the thread's view there is t, and one write more is held.
unfoldable pub accessed : Machine → ℕ → Access → Machine
accessed m i NoAccess = m
accessed m i (Reads c t) = m
accessed m i (Writes c t v) = with_held (with_row m i (with_stamp (row m i) (c - 1) t)) (m.held + 1)
