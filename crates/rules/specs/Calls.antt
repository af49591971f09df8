-- What a step does: the two calls, one memory step each, and the accesses. Threads count from 0 here. Assumes nothing.
use Rattle.std.specs.Prelude.{Bool, true, false, ℕ, ◌-◌, eqb}
use Rattle.atomic.specs.Atomic.{read_atomic, write_atomic, swapped_of}
use Rattle.atomic.specs.declared.Swapped.{Swapped}
use Rattle.rules.specs.declared.Done.{Done}
use Rattle.rank.specs.Rank.{slot_of, next_rank, free_status, full_status, lapped}
use Rattle.state.specs.State.{place, with_place, atomic_at}
use Rattle.state.specs.declared.Machine.{Machine}
use Rattle.state.specs.declared.Name.{Name}
use Rattle.state.specs.declared.Name.TheVariants.{Head, Tail, Flag, Status}
use Rattle.state.specs.declared.Place.{Place}
use Rattle.state.specs.declared.Place.TheVariants.{Idle, PutStatus, PutSwap, PutWrite, PutPublish, TakeStatus, TakeSwap, TakeRead, TakeFree}
use Rattle.step.specs.declared.Answer.{Answer}
use Rattle.step.specs.declared.Answer.TheVariants.{Dash, Ok, Value, Yes, No, None, Got}
use Rattle.step.specs.declared.Verb.{Verb}
use Rattle.step.specs.declared.Verb.TheVariants.{Get, Set, Load, Store, Swap, Put, Take, Go, GoAt}

-- thread i goes to a place and is answered
abbrev pub ends : Machine → ℕ → Place → Answer → Done
ends m i p a = record { answer = a; machine = with_place m i p }

-- A step of a call that does not end it answers "-".
unfoldable pub goes_on : Bool → Machine → ℕ → Place → Answer → Done
goes_on true m i p lost = ends m i p Dash
goes_on false m i p lost = ends m i Idle lost

-- the status of the slot of rank k
abbrev pub status_name : Machine → ℕ → Name
status_name m k = Status (slot_of m.shape.slots k)

-- second: read status; not the one due: answer, idle
unfoldable pub looks : Machine → ℕ → ℕ → ℕ → Place → Answer → Done
looks m i k due p lost = goes_on (eqb (atomic_at m (status_name m k)).value due) (read_atomic m i (status_name m k)) i p lost

abbrev pub won_to : Swapped → ℕ → Place → Answer → Done
won_to s i p lost = goes_on s.won s.machine i p lost

-- third: swap from the rank to the next; lost: answer, idle
unfoldable pub swaps : Machine → ℕ → Name → ℕ → Place → Answer → Done
swaps m i a k p lost = won_to (swapped_of m i a k (next_rank k)) i p lost

-- fifth: write status; answer
unfoldable pub closes : Machine → ℕ → ℕ → ℕ → Answer → Done
closes m i k status a = ends (write_atomic m i (status_name m k) status) i Idle a

-- The table of the two calls, a row each; a plain read of the slot has found v.
unfoldable pub resumed : Machine → ℕ → Place → ℕ → Done
resumed m i Idle v = ends m i Idle Dash
resumed m i (PutStatus h w) v = looks m i h (free_status h) (PutSwap h w) No
resumed m i (PutSwap h w) v = swaps m i Head h (PutWrite h w) No
resumed m i (PutWrite h w) v = ends m i (PutPublish h) Dash
resumed m i (PutPublish h) v = closes m i h (full_status h) Yes
resumed m i (TakeStatus t) v = looks m i t (full_status t) (TakeSwap t) None
resumed m i (TakeSwap t) v = swaps m i Tail t (TakeRead t) None
resumed m i (TakeRead t) v = ends m i (TakeFree t v) Dash
resumed m i (TakeFree t w) v = closes m i t (free_status (lapped m.shape.slots t)) (Got w)

abbrev pub yes_if : Bool → Answer
yes_if true = Yes
yes_if false = No

abbrev pub won_answer : Swapped → ℕ → Done
won_answer s i = ends s.machine i Idle (yes_if s.won)

-- What each verb does; the plain write of a `set` or a put's fourth step is done before, a plain read has found v.
unfoldable pub acted : Machine → ℕ → Verb → ℕ → Done
acted m i (Get c t) v = ends m i Idle (Value v)
acted m i (Set c x t) v = ends m i Idle Ok
acted m i (Load f) v = ends (read_atomic m i (Flag (f - 1))) i Idle (Value (atomic_at m (Flag (f - 1))).value)
acted m i (Store f x) v = ends (write_atomic m i (Flag (f - 1)) x) i Idle Ok
acted m i (Swap f old new) v = won_answer (swapped_of m i (Flag (f - 1)) old new) i
acted m i (Put w) v = ends (read_atomic m i Head) i (PutStatus m.head.value w) Dash
acted m i Take v = ends (read_atomic m i Tail) i (TakeStatus m.tail.value) Dash
acted m i Go v = resumed m i (place m i) v
acted m i (GoAt t) v = resumed m i (place m i) v
