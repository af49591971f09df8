-- The parts of a step leave a machine as long as its arrays. Assumes nothing.
use mathlib.Core.Path.{◌≡◌, refl, ◌∙◌}
use mathlib.Core.Bool.{Bool, true, false}
use Prim.Native.Nat.{ℕ, ◌-◌}
use lib.Dec.{eqb}
use lib.ListN.{length}
use Rattle.atomic.specs.Atomic.{met, told, read_atomic, write_atomic, swap_if, swapped_of}
use Rattle.rules.proofs.Each.{atomic_each}
use Rattle.laws.proofs.Lists.{set_length, set_either}
use Rattle.rules.specs.Access.{accessed}
use Rattle.rules.specs.Calls.{goes_on, status_name, looks, swaps, closes, resumed, acted}
use Rattle.rank.specs.Rank.{next_rank}
use Rattle.state.proofs.Changed.{atomics_same}
use Rattle.state.specs.Fields.{with_steps, with_held}
use Rattle.state.specs.State.{at, row, with_row, place, with_place, atomic_at, with_atomic, Whole}
use Rattle.state.specs.declared.Atomic.{Atomic}
use Rattle.state.specs.declared.Machine.{Machine}
use Rattle.state.specs.declared.Name.{Name}
use Rattle.state.specs.declared.Name.TheVariants.{Head, Tail, Flag, Status}
use Rattle.state.specs.declared.Place.{Place}
use Rattle.state.specs.declared.Place.TheVariants.{Idle, PutStatus, PutSwap, PutWrite, PutPublish, TakeStatus, TakeSwap, TakeRead, TakeFree}
use Rattle.step.specs.declared.Answer.{Answer}
use Rattle.step.specs.declared.Answer.TheVariants.{No, None}
use Rattle.step.specs.declared.Verb.{Verb}
use Rattle.step.specs.declared.Verb.TheVariants.{Get, Set, Load, Store, Swap, Put, Take, Go, GoAt}
use Rattle.view.proofs.Joined.{join_length}
use Rattle.view.specs.View.{zero_view, with_stamp, joined}
use Rattle.view.specs.declared.View.{View}
use Rattle.writes.specs.declared.Access.{Access}
use Rattle.writes.specs.declared.Access.TheVariants.{NoAccess, Reads, Writes}

-- a machine by its lists
pub whole : {m : Machine} → length m.firsts ≡ 16 → length m.views ≡ 8 → length m.threads ≡ 8 → length m.flags ≡ 8 → length m.statuses ≡ 16
    → ((i : ℕ) → length (row m i).at ≡ 32) → ((a : Name) → length (atomic_at m a).view.at ≡ 32) → Whole m
whole gs vs ts fs ss rs ns = record { firsts = gs; views = vs; threads = ts; flags = fs; statuses = ss; rows = rs; seen = ns }

-- the atomic cells of another machine that has the same
seen_same : (m n : Machine) → Whole m → n.flags ≡ m.flags → n.head ≡ m.head → n.tail ≡ m.tail → n.statuses ≡ m.statuses
    → (a : Name) → length (atomic_at n a).view.at ≡ 32
seen_same m n w f h t s a = rw (atomics_same m n f h t s a) (w.seen a)

-- a row replaced by one of the same length
row_whole : (m : Machine) (i : ℕ) (v : View) → Whole m → length v.at ≡ 32 → Whole (with_row m i v)
unfolding with_row row
row_whole m i v w h =
    whole w.firsts (set_length m.views i v ∙ w.views) w.threads w.flags w.statuses
    (λ j. set_either (λ (x : View). length x.at ≡ 32) m.views i j v zero_view h (w.rows j)) (seen_same m _ w refl refl refl refl)

-- a place replaced
place_whole : (m : Machine) (i : ℕ) (p : Place) → Whole m → Whole (with_place m i p)
unfolding with_place row
place_whole m i p w =
    whole w.firsts w.views (set_length m.threads i (at p) ∙ w.threads) w.flags w.statuses w.rows (seen_same m _ w refl refl refl refl)

-- the counts of steps and held writes replaced
pub counts_whole : {m : Machine} {n k : ℕ} → Whole m → Whole (with_held (with_steps m n) k)
unfolding row
counts_whole w = whole w.firsts w.views w.threads w.flags w.statuses w.rows (seen_same _ _ w refl refl refl refl)

-- an atomic cell replaced by one whose view has the same length
atomic_whole : (m : Machine) (a : Name) (x : Atomic) → Whole m → length x.view.at ≡ 32 → Whole (with_atomic m a x)
unfolding with_atomic row
atomic_whole m a x w h = go a (λ b. atomic_each (λ _ (y : Atomic). length y.view.at ≡ 32) m a b x h (w.seen b))
  where
    go : (c : Name) → ((b : Name) → length (atomic_at (with_atomic m c x) b).view.at ≡ 32) → Whole (with_atomic m c x)
    go Head s = whole w.firsts w.views w.threads w.flags w.statuses w.rows s
    go Tail s = whole w.firsts w.views w.threads w.flags w.statuses w.rows s
    go (Flag i) s = whole w.firsts w.views w.threads (set_length m.flags i x ∙ w.flags) w.statuses w.rows s
    go (Status i) s = whole w.firsts w.views w.threads w.flags (set_length m.statuses i x ∙ w.statuses) w.rows s

-- a call goes on or ends
goes_on_whole : (b : Bool) (m : Machine) (i : ℕ) (p : Place) (lost : Answer) → Whole m → Whole (goes_on b m i p lost).machine
unfolding goes_on
goes_on_whole true m i p lost w = place_whole m i p w
goes_on_whole false m i p lost w = place_whole m i Idle w

module _ (m : Machine) (w : Whole m) (i : ℕ) where
  -- a plain access
  pub accessed_whole : (a : Access) → Whole (accessed m i a)
  unfolding accessed with_stamp
  accessed_whole NoAccess = w
  accessed_whole (Reads c t) = w
  accessed_whole (Writes c t v) =
      counts_whole (row_whole m i (with_stamp (row m i) (c - 1) t) w (set_length (row m i).at (c - 1) t ∙ w.rows i))

  -- an atomic read
  read_whole : (a : Name) → Whole (read_atomic m i a)
  unfolding read_atomic met joined
  read_whole a = row_whole m i (met m i a) w (join_length _ (row m i).at _ ∙ w.rows i)

  -- an atomic write
  write_whole : (a : Name) (x : ℕ) → Whole (write_atomic m i a x)
  unfolding write_atomic read_atomic told joined
  write_whole a x = atomic_whole (with_row m i (met m i a)) a _ (read_whole a) (join_length _ (atomic_at m a).view.at _ ∙ w.seen a)

  -- a swap, won or lost
  swap_whole : (a : Name) (old new : ℕ) → Whole (swapped_of m i a old new).machine
  unfolding swapped_of
  swap_whole a old new = go (eqb (atomic_at m a).value old)
    where
      go : (b : Bool) → Whole (swap_if b m i a new).machine
      go true = write_whole a new
      go false = read_whole a

  -- the table of the two calls
  resumed_whole : (p : Place) (v : ℕ) → Whole (resumed m i p v).machine
  unfolding resumed looks swaps closes
  resumed_whole Idle v = place_whole m i Idle w
  resumed_whole (PutStatus k x) v = goes_on_whole _ _ i _ No (read_whole (status_name m k))
  resumed_whole (PutSwap k x) v = goes_on_whole _ _ i _ No (swap_whole Head k (next_rank k))
  resumed_whole (PutWrite k x) v = place_whole m i (PutPublish k) w
  resumed_whole (PutPublish k) v = place_whole _ i Idle (write_whole (status_name m k) _)
  resumed_whole (TakeStatus k) v = goes_on_whole _ _ i _ None (read_whole (status_name m k))
  resumed_whole (TakeSwap k) v = goes_on_whole _ _ i _ None (swap_whole Tail k (next_rank k))
  resumed_whole (TakeRead k) v = place_whole m i (TakeFree k v) w
  resumed_whole (TakeFree k x) v = place_whole _ i Idle (write_whole (status_name m k) _)

  -- what each verb does
  pub acted_whole : (x : Verb) (v : ℕ) → Whole (acted m i x v).machine
  unfolding acted
  acted_whole (Get c t) v = place_whole m i Idle w
  acted_whole (Set c x t) v = place_whole m i Idle w
  acted_whole (Load f) v = place_whole _ i Idle (read_whole (Flag (f - 1)))
  acted_whole (Store f x) v = place_whole _ i Idle (write_whole (Flag (f - 1)) x)
  acted_whole (Swap f old new) v = place_whole _ i Idle (swap_whole (Flag (f - 1)) old new)
  acted_whole (Put x) v = place_whole _ i _ (read_whole Head)
  acted_whole Take v = place_whole _ i _ (read_whole Tail)
  acted_whole Go v = resumed_whole (place m i) v
  acted_whole (GoAt t) v = resumed_whole (place m i) v
