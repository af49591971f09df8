-- The two calls as published: source 001, Fig. 8, less the clearing of the item; and the accesses as calls of one event. Assumes nothing.
use Rattle.std.specs.Prelude.{Bool, true, false, ◌≢◌, ℕ, ◌+◌, ◌-◌, ◌*◌, ◌%◌, eqb}
use Rattle.published.specs.Memory.{Event, rd, wr, rd_a, wr_a, rdwr_a}
use Rattle.state.specs.declared.Name.{Name}
use Rattle.state.specs.declared.Name.TheVariants.{Head, Tail, Flag, Status}
use Rattle.state.specs.declared.Place.{Place}
use Rattle.state.specs.declared.Place.TheVariants.{Idle, PutStatus, PutSwap, PutWrite, PutPublish, TakeStatus, TakeSwap, TakeRead, TakeFree}
use Rattle.state.specs.declared.Shape.{Shape}
use Rattle.step.specs.declared.Answer.{Answer}
use Rattle.step.specs.declared.Answer.TheVariants.{Dash, Ok, Value, Yes, No, None, Got}
use Rattle.step.specs.declared.LineKind.{LineKind}
use Rattle.step.specs.declared.LineKind.TheVariants.{Begins, Goes, GoesAt}
use Rattle.step.specs.declared.Verb.{Verb}
use Rattle.step.specs.declared.Verb.TheVariants.{Get, Set, Load, Store, Swap, Put, Take, Go, GoAt}

-- a piece of code: memory operations in order, each with what follows it, and at the end an answer
pub data Code : Type 0 where
  answers : Answer → Code
  reads : ℕ → (ℕ → Code) → Code
  writes : ℕ → ℕ → Code → Code
  reads_at : Name → (ℕ → Code) → Code
  writes_at : Name → ℕ → Code → Code
  swaps_at : Name → ℕ → ℕ → Code → Code → Code

-- A code makes its first event and is left as another (source 000, Fig. 4). A swap that is lost is a read of another value.
pub data Makes : Code → ℕ → Event → Code → Type 0 where
  read : (a : ℕ) (f : ℕ → Code) (t v : ℕ) → Makes (reads a f) t (rd a t v) (f v)
  write : (a v : ℕ) (c : Code) (t : ℕ) → Makes (writes a v c) t (wr a t v) c
  read_at : (A : Name) (f : ℕ → Code) (t v : ℕ) → Makes (reads_at A f) t (rd_a A v) (f v)
  write_at : (A : Name) (v : ℕ) (c : Code) (t : ℕ) → Makes (writes_at A v c) t (wr_a A v) c
  swap_won : (A : Name) (u v : ℕ) (c d : Code) (t : ℕ) → Makes (swaps_at A u v c d) t (rdwr_a A u v) c
  swap_lost : (A : Name) (u v : ℕ) (c d : Code) (t x : ℕ) → x ≢ u → Makes (swaps_at A u v c d) t (rd_a A x) d

abbrev pub if_code : Bool → Code → Code → Code
if_code true c d = c
if_code false c d = d

-- items[k mod C], and statuses[k mod C]
abbrev pub item : Shape → ℕ → ℕ
item s k = s.plain + 1 + k % s.slots

abbrev pub status : Shape → ℕ → Name
status s k = Status (k % s.slots)

-- try_enqueue, from its last line to its first
abbrev pub enqueue5 : Shape → ℕ → Code
enqueue5 s h = writes_at (status s h) (2 * h + 1) (answers Yes)

abbrev pub enqueue4 : Shape → ℕ → ℕ → Code
enqueue4 s w h = writes (item s h) w (enqueue5 s h)

abbrev pub enqueue3 : Shape → ℕ → ℕ → Code
enqueue3 s w h = swaps_at Head h (h + 1) (enqueue4 s w h) (answers No)

abbrev pub enqueue2 : Shape → ℕ → ℕ → Code
enqueue2 s w h = reads_at (status s h) (λ x. if_code (eqb x (2 * h)) (enqueue3 s w h) (answers No))

abbrev pub try_enqueue : Shape → ℕ → Code
try_enqueue s w = reads_at Head (λ h. enqueue2 s w h)

-- try_dequeue, from its last line to its first
abbrev pub dequeue5 : Shape → ℕ → ℕ → Code
dequeue5 s t w = writes_at (status s t) (2 * (t + s.slots)) (answers (Got w))

abbrev pub dequeue4 : Shape → ℕ → Code
dequeue4 s t = reads (item s t) (λ w. dequeue5 s t w)

abbrev pub dequeue3 : Shape → ℕ → Code
dequeue3 s t = swaps_at Tail t (t + 1) (dequeue4 s t) (answers None)

abbrev pub dequeue2 : Shape → ℕ → Code
dequeue2 s t = reads_at (status s t) (λ x. if_code (eqb x (2 * t + 1)) (dequeue3 s t) (answers None))

abbrev pub try_dequeue : Shape → Code
try_dequeue s = reads_at Tail (λ t. dequeue2 s t)

-- what is left of a thread's call; of one that is idle nothing, which no line runs
abbrev pub rest_of : Shape → Place → Code
rest_of s Idle = answers Dash
rest_of s (PutStatus h w) = enqueue2 s w h
rest_of s (PutSwap h w) = enqueue3 s w h
rest_of s (PutWrite h w) = enqueue4 s w h
rest_of s (PutPublish h) = enqueue5 s h
rest_of s (TakeStatus t) = dequeue2 s t
rest_of s (TakeSwap t) = dequeue3 s t
rest_of s (TakeRead t) = dequeue4 s t
rest_of s (TakeFree t w) = dequeue5 s t w

-- Which kind of line the rest of a call waits for, by its first event: a go, with a stamp where the event is a plain location's, which
-- has a time stamp. Of a call that has none left, the line begins another or is an access.
abbrev pub waits_for : Code → LineKind
waits_for (answers a) = Begins
waits_for (reads a f) = GoesAt
waits_for (writes a v c) = GoesAt
waits_for (reads_at A f) = Goes
waits_for (writes_at A v c) = Goes
waits_for (swaps_at A u v c d) = Goes

-- what a line of a thread at a place runs
abbrev pub code_of : Shape → Verb → Place → Code
code_of s (Get c t) p = reads c (λ v. answers (Value v))
code_of s (Set c v t) p = writes c v (answers Ok)
code_of s (Load f) p = reads_at (Flag (f - 1)) (λ v. answers (Value v))
code_of s (Store f v) p = writes_at (Flag (f - 1)) v (answers Ok)
code_of s (Swap f u v) p = swaps_at (Flag (f - 1)) u v (answers Yes) (answers No)
code_of s (Put w) p = try_enqueue s w
code_of s Take p = try_dequeue s
code_of s Go p = rest_of s p
code_of s (GoAt t) p = rest_of s p

-- the time stamp that a line gives; 0 where its event has none
abbrev pub stamp_in : Verb → ℕ
stamp_in (Get c t) = t
stamp_in (Set c v t) = t
stamp_in (Load f) = 0
stamp_in (Store f v) = 0
stamp_in (Swap f u v) = 0
stamp_in (Put w) = 0
stamp_in Take = 0
stamp_in Go = 0
stamp_in (GoAt t) = t
