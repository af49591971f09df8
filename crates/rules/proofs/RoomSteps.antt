-- What the parts of a step leave of the room that a machine lacks. Assumes nothing.
use mathlib.Core.Path.{◌≡◌, refl, ap, ◌∙◌}
use mathlib.Core.Bool.{Bool, true, false}
use Prim.Native.Nat.{ℕ, ◌-◌, ◌<◌, ◌≤◌}
use native.Mathlib.Omega.{arith}
use lib.Dec.{eqb}
use lib.ListN.{get_or}
use Rattle.atomic.specs.Atomic.{met, told, read_atomic, write_atomic, swap_if, swapped_of}
use Rattle.rules.proofs.Access.{AccessFits}
use Rattle.rules.proofs.Calls.{flag_in}
use Rattle.rules.proofs.Each.{set_each, atomic_each}
use Rattle.rules.proofs.Parts.{Known}
use Rattle.rules.specs.Kept.{Lacks, SameRoom}
use Rattle.rules.specs.Access.{accessed}
use Rattle.rules.specs.Calls.{goes_on, status_name, looks, swaps, closes, resumed, acted}
use Rattle.rank.specs.Rank.{next_rank}
use Rattle.state.proofs.Changed.{stamp_else, atomics_same, atomic_leaves}
use Rattle.state.specs.Fields.{with_steps, with_held}
use Rattle.state.specs.State.{at, cells_of, row, with_row, place, with_place, atomic_at, with_atomic}
use Rattle.state.specs.declared.Atomic.{Atomic}
use Rattle.state.specs.declared.Machine.{Machine}
use Rattle.state.specs.declared.Name.{Name}
use Rattle.state.specs.declared.Name.TheVariants.{Head, Tail, Flag, Status}
use Rattle.state.specs.declared.Place.{Place}
use Rattle.state.specs.declared.Place.TheVariants.{Idle, PutStatus, PutSwap, PutWrite, PutPublish, TakeStatus, TakeSwap, TakeRead, TakeFree}
use Rattle.state.specs.declared.Shape.{Shape}
use Rattle.state.specs.declared.Thread.{Thread}
use Rattle.step.specs.declared.Answer.{Answer}
use Rattle.step.specs.declared.Answer.TheVariants.{No, None}
use Rattle.step.specs.declared.Verb.{Verb}
use Rattle.step.specs.declared.Verb.TheVariants.{Get, Set, Load, Store, Swap, Put, Take, Go, GoAt}
use Rattle.verbs.specs.Verbs.{named}
use Rattle.view.proofs.Joined.{join_else}
use Rattle.view.specs.View.{zero_view, stamp_of, with_stamp}
use Rattle.view.specs.declared.View.{View}
use Rattle.writes.specs.declared.Access.{Access}
use Rattle.writes.specs.declared.Access.TheVariants.{NoAccess, Reads, Writes}

-- two views that agree past k cells
abbrev pub Agree : ℕ → View → View → Type 0
Agree k v w = (e : ℕ) → k ≤ e → stamp_of v e ≡ stamp_of w e

-- no machine lacks an atomic cell that it has
pub lacks_none : (s : Shape) (a : Name) → Known s a → Lacks s a → ⊥
lacks_none s Head h l = l
lacks_none s Tail h l = l
lacks_none s (Flag f) h l = omega arith
lacks_none s (Status i) h l = omega arith

-- nothing changed
pub room_same : (m : Machine) → SameRoom m m
room_same m =
    record {
      shape = refl;
      firsts = refl;
      threads = λ i h. (refl, refl);
      rows = λ i e h. refl;
      cells = λ a h. refl;
      seen = λ a e h. refl;
    }

-- one change after another
pub room_then : {m n o : Machine} → SameRoom m n → SameRoom n o → SameRoom m o
unfolding cells_of
room_then p q =
    record {
      shape = q.shape ∙ p.shape;
      firsts = q.firsts ∙ p.firsts;
      threads = λ i h. let u = q.threads i (rw p.shape h) in let v = p.threads i h in (u.0 ∙ v.0, u.1 ∙ v.1);
      rows = λ i e h. q.rows i e (rw p.shape h) ∙ p.rows i e h;
      cells = λ a h. q.cells a (rw p.shape h) ∙ p.cells a h;
      seen = λ a e h. q.seen a e (rw p.shape h) ∙ p.seen a e h;
    }

-- the row of a thread that there is, replaced by one that agrees past the machine's cells
row_room : (m : Machine) (i : ℕ) (v : View) → i < m.shape.threads → Agree (cells_of m) v (row m i) → SameRoom m (with_row m i v)
unfolding with_row row place
row_room m i v l h =
    let same = atomics_same m (with_row m i v) refl refl refl refl in
    let else = set_each (λ k (x : View). m.shape.threads ≤ k → x ≡ row m k) m.views i in
    record {
      shape = refl;
      firsts = refl;
      threads = λ j g. (else j v zero_view (λ b. absurd (omega arith)) (λ b. refl) g, refl);
      rows = λ j. set_each (λ k (x : View). Agree (cells_of m) x (row m k)) m.views i j v zero_view h (λ e g. refl);
      cells = λ a g. same a;
      seen = λ a e g. ap (λ (x : Atomic). stamp_of x.view e) (same a);
    }

-- the place of a thread that there is, replaced
place_room : (m : Machine) (i : ℕ) (p : Place) → i < m.shape.threads → SameRoom m (with_place m i p)
unfolding with_place row place
place_room m i p l =
    let same = atomics_same m (with_place m i p) refl refl refl refl in
    let else = set_each (λ k (x : Thread). m.shape.threads ≤ k → x.place ≡ place m k) m.threads i in
    record {
      shape = refl;
      firsts = refl;
      threads = λ j g. (refl, else j (at p) (at Idle) (λ b. absurd (omega arith)) (λ b. refl) g);
      rows = λ j e g. refl;
      cells = λ a g. same a;
      seen = λ a e g. ap (λ (x : Atomic). stamp_of x.view e) (same a);
    }

-- the counts of steps and held writes replaced
pub counts_room : (m : Machine) (n k : ℕ) → SameRoom m (with_held (with_steps m n) k)
unfolding row place
counts_room m n k =
    let same = atomics_same m (with_held (with_steps m n) k) refl refl refl refl in
    record {
      shape = refl;
      firsts = refl;
      threads = λ j g. (refl, refl);
      rows = λ j e g. refl;
      cells = λ a g. same a;
      seen = λ a e g. ap (λ (x : Atomic). stamp_of x.view e) (same a);
    }

-- an atomic cell that there is, replaced by one whose view agrees past the machine's cells
atomic_room : (m : Machine) (a : Name) (x : Atomic) → Known m.shape a → Agree (cells_of m) x.view (atomic_at m a).view
    → SameRoom m (with_atomic m a x)
unfolding row place
atomic_room m a x l h =
    record {
      shape = atomic_leaves (λ s k f v t. s) m a x;
      firsts = atomic_leaves (λ s k f v t. f) m a x;
      threads = λ j g. (atomic_leaves (λ s k f v t. get_or v j zero_view) m a x, atomic_leaves (λ s k f v t. (get_or t j (at Idle)).place) m a x);
      rows = λ j e g. atomic_leaves (λ s k f v t. stamp_of (get_or v j zero_view) e) m a x;
      cells = λ b. atomic_each (λ c (y : Atomic). Lacks m.shape c → y ≡ atomic_at m c) m a b x (λ g. absurd (lacks_none m.shape a l g)) (λ g. refl);
      seen = λ b. atomic_each (λ c (y : Atomic). Agree (cells_of m) y.view (atomic_at m c).view) m a b x h (λ e g. refl);
    }

module _ (m : Machine) (i : ℕ) (l : i < m.shape.threads) where
  -- a place replaced after a change
  placed_room : {n : Machine} (p : Place) → SameRoom m n → SameRoom m (with_place n i p)
  placed_room p r = room_then r (place_room _ i p (rw r.shape l))

  -- a call goes on or ends
  goes_on_room : (b : Bool) {n : Machine} (p : Place) (lost : Answer) → SameRoom m n → SameRoom m (goes_on b n i p lost).machine
  unfolding goes_on
  goes_on_room true p lost r = placed_room p r
  goes_on_room false p lost r = placed_room Idle r

  -- a plain access
  pub accessed_room : (a : Access) → AccessFits (cells_of m) a → SameRoom m (accessed m i a)
  unfolding accessed
  accessed_room NoAccess h = room_same m
  accessed_room (Reads c t) h = room_same m
  accessed_room (Writes c t v) h =
      room_then (row_room m i (with_stamp (row m i) (c - 1) t) l (λ e g. stamp_else (row m i) (c - 1) e t (λ q. omega (arith, h.0, h.1))))
      (counts_room _ _ _)

  -- an atomic read
  read_room : (a : Name) → SameRoom m (read_atomic m i a)
  unfolding read_atomic met
  read_room a = row_room m i (met m i a) l (λ e g. join_else _ _ _ e g)

  -- an atomic write of a cell that there is
  write_room : (a : Name) (x : ℕ) → Known m.shape a → SameRoom m (write_atomic m i a x)
  unfolding write_atomic read_atomic told with_row cells_of
  write_room a x h =
      let n = with_row m i (met m i a) in
      let same = atomics_same m n refl refl refl refl a in
      room_then (read_room a) (atomic_room n a _ h (λ e g. rw same (join_else _ _ _ e g)))

  -- a swap, won or lost
  swap_room : (a : Name) (old new : ℕ) → Known m.shape a → SameRoom m (swapped_of m i a old new).machine
  unfolding swapped_of
  swap_room a old new h = go (eqb (atomic_at m a).value old)
    where
      go : (b : Bool) → SameRoom m (swap_if b m i a new).machine
      go true = write_room a new h
      go false = read_room a

  -- the table of the two calls, where each rank's slot is one of the machine's
  resumed_room : ((k : ℕ) → Known m.shape (status_name m k)) → (p : Place) (v : ℕ) → SameRoom m (resumed m i p v).machine
  unfolding resumed looks swaps closes
  resumed_room slot Idle v = placed_room Idle (room_same m)
  resumed_room slot (PutStatus k x) v = goes_on_room _ (PutSwap k x) No (read_room (status_name m k))
  resumed_room slot (PutSwap k x) v = goes_on_room _ (PutWrite k x) No (swap_room Head k (next_rank k) tt)
  resumed_room slot (PutWrite k x) v = placed_room (PutPublish k) (room_same m)
  resumed_room slot (PutPublish k) v = placed_room Idle (write_room (status_name m k) _ (slot k))
  resumed_room slot (TakeStatus k) v = goes_on_room _ (TakeSwap k) None (read_room (status_name m k))
  resumed_room slot (TakeSwap k) v = goes_on_room _ (TakeRead k) None (swap_room Tail k (next_rank k) tt)
  resumed_room slot (TakeRead k) v = placed_room (TakeFree k v) (room_same m)
  resumed_room slot (TakeFree k x) v = placed_room Idle (write_room (status_name m k) _ (slot k))

  -- what each verb does, where the flag that it names is one of the machine's
  pub acted_room : ((k : ℕ) → Known m.shape (status_name m k)) → (x : Verb) (v : ℕ) → named m.shape x ≡ true
      → SameRoom m (acted m i x v).machine
  unfolding acted
  acted_room slot (Get c t) v e = placed_room Idle (room_same m)
  acted_room slot (Set c x t) v e = placed_room Idle (room_same m)
  acted_room slot (Load f) v e = placed_room Idle (read_room (Flag (f - 1)))
  acted_room slot (Store f x) v e = placed_room Idle (write_room (Flag (f - 1)) x (flag_in m f e))
  acted_room slot (Swap f old new) v e = placed_room Idle (swap_room (Flag (f - 1)) old new (flag_in m f e))
  acted_room slot (Put x) v e = placed_room (PutStatus m.head.value x) (read_room Head)
  acted_room slot Take v e = placed_room (TakeStatus m.tail.value) (read_room Tail)
  acted_room slot Go v e = resumed_room slot (place m i) v
  acted_room slot (GoAt t) v e = resumed_room slot (place m i) v
