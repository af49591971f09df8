-- What a step does to a machine is what a memory rule says, one law for each kind of event. Assumes nothing.
use mathlib.Core.Path.{fun_ext, ◌≡◌, refl, sym, ap, ◌∙◌}
use mathlib.Core.List.{List}
use mathlib.Core.Logic.{◌≢◌}
use Prim.Native.Nat.{ℕ, ◌-◌, ◌<◌, ◌≤◌, max}
use native.Mathlib.Numerals.{add-one}
use native.Mathlib.Omega.{arith}
use native.Mathlib.Decide.{ℕ_discrete}
use borrow.Author.Tests.{eq-eqb, ne_eqb}
use lib.Dec.{ltb, eqb}
use lib.ListN.{length, get_or, set}
use native.Mathlib.Nat.{max_comm}
use Rattle.std.specs.Prelude.{Option, Some, None}
use Rattle.std.specs.Bool.{then_some}
use Rattle.atomic.specs.Atomic.{told, met, read_atomic, write_atomic}
use Rattle.laws.proofs.Tests.{fails_left, fails_right}
use Rattle.laws.specs.Tests.{◌and◌}
use Rattle.rules.specs.Access.{accessed}
use Rattle.standing.proofs.Bounds.{Bounds}
use Rattle.state.proofs.Changed.{stamp_here, stamp_else, row_here, Room, atomic_here, atomic_else, atomics_same, atomic_leaves}
use Rattle.published.specs.Follows.{store_of, stamps_of}
use Rattle.published.specs.Memory.{Loc, Has, Memory, Event, SameView, Joined, SameHistories, SameAt, Replaced, Rule, rd, wr, rd_a, wr_a, rdwr_a, mem_na_read, mem_na_write, mem_at_read, mem_at_write, mem_at_read_write}
use Rattle.state.specs.Fields.{with_steps}
use Rattle.state.specs.State.{atomic, cells_of, row, with_row, with_place, atomic_at, given_if, first_of, Whole}
use Rattle.state.specs.declared.Atomic.{Atomic}
use Rattle.state.specs.declared.Machine.{Machine}
use Rattle.state.specs.declared.Name.{Name}
use Rattle.state.specs.declared.Name.TheVariants.{Head, Tail, Flag, Status}
use Rattle.state.specs.declared.Place.{Place}
use Rattle.state.specs.declared.Shape.{Shape}
use Rattle.view.proofs.Joined.{join_here}
use Rattle.view.specs.View.{zero_view, stamp_of, with_stamp}
use Rattle.view.specs.declared.View.{View}
use Rattle.writes.proofs.History.{found_more}
use Rattle.writes.specs.History.{earlier, shown_by, found}
use Rattle.writes.specs.Records.{write}
use Rattle.writes.specs.declared.Access.TheVariants.{Writes}
use Rattle.writes.specs.declared.Write.{Write}

-- a store by its histories and its atomic cells
abbrev memory_of : (ℕ → ℕ → Option ℕ) → (Name → Atomic) → Memory
memory_of h cell = record { history = h; value = λ A. (cell A).value; seen = λ A a. stamp_of (cell A).view (a - 1) }

-- where the thread goes and how many steps are counted is no part of the store
pub settled : (m : Machine) (ws : List Write) (i : ℕ) (p : Place) (n : ℕ) → store_of (with_steps (with_place m i p) n) ws ≡ store_of m ws
unfolding with_place first_of
settled m ws i p n =
    ap (memory_of (store_of m ws).history) (fun_ext (atomics_same m (with_steps (with_place m i p) n) refl refl refl refl))

-- an atomic cell that is the same is so in the store
same_at : (D : Shape) (m n : Machine) (ws us : List Write) (A : Name) → atomic_at n A ≡ atomic_at m A → SameAt D (store_of m ws) (store_of n us) A
same_at D m n ws us A e =
    (ap (λ (a : Atomic). a.value) e, λ a l. ap (λ (x : Atomic). stamp_of x.view (a - 1)) e)

earlier_missing : (f : Option ℕ) → earlier f None ≡ f
earlier_missing None = refl
earlier_missing (Some v) = refl

-- a record shows its value at its own cell and stamp, and nowhere else
shown_here : (c t v : ℕ) → shown_by (write c t v) c t ≡ Some v
unfolding shown_by ◌and◌
shown_here c t v = rw (eq-eqb c c refl, eq-eqb t t refl)

shown_else : (c t v b s : ℕ) → ((b ≡ c) × (s ≡ t) → ⊥) → shown_by (write c t v) b s ≡ None
unfolding shown_by
shown_else c t v b s n = go (ℕ_discrete b c)
  where
    go : Dec (b ≡ c) → then_some (eqb c b and eqb t s) v ≡ None
    go (yes e) = rw (fails_right (eqb c b) (eqb t s) (ne_eqb t s (λ q. n (e, sym q))))
    go (no d) = rw (fails_left (eqb c b) (eqb t s) (ne_eqb c b (λ q. d (sym q))))

-- the rows that an atomic write leaves are a read's
pub row_written : (m : Machine) (i : ℕ) (A : Name) (x j : ℕ) → row (write_atomic m i A x) j ≡ row (read_atomic m i A) j
unfolding write_atomic read_atomic row
row_written m i A x j = atomic_leaves (λ s h f vs ts. get_or vs j zero_view) (read_atomic m i A) A (atomic x (told m i A))

module _ (m : Machine) (ws : List Write) (i : ℕ) (W : Whole m) (B : Bounds m.shape) (l : i < 8) where
  -- the rules take this machine to another by an event of thread i
  abbrev pub Goes : Event → Machine → List Write → Type 0
  Goes e n us = Rule m.shape (store_of m ws) (stamps_of m i) e (store_of n us) (stamps_of n i)

  -- a location's stamp stands in the view
  placed : (a : ℕ) → Loc m.shape a → (a - 1 < cells_of m) × (a - 1 < length (row m i).at)
  unfolding cells_of
  placed a o = (omega arith, omega (arith, W.rows i, B.slots, B.plain))

  -- a row that thread i is given is its own
  own : (v : View) (a : ℕ) → stamps_of (with_row m i v) i a ≡ stamp_of v (a - 1)
  own v a = ap (λ (x : View). stamp_of x (a - 1)) (row_here m i v (omega (arith, W.views)))

  -- a plain read
  pub reads_plain : (c t v : ℕ) → Loc m.shape c → found (first_of m (c - 1)) ws c t m.held ≡ Some v → stamp_of (row m i) (c - 1) ≤ t → Goes (rd c t v) m ws
  reads_plain c t v o h b = mem_na_read c t v _ _ o h b ((λ a s o. refl), (λ A q. (refl, λ a o. refl))) (λ a o. refl)

  -- a plain write: thread i's own view of the cell moves to the stamp
  pub writes_plain : (c t v : ℕ) → Loc m.shape c → m.held < length ws
      → found (first_of m (c - 1)) ws c t m.held ≡ None → stamp_of (row m i) (c - 1) < t
      → Goes (wr c t v) (accessed m i (Writes c t v)) (set ws m.held (write c t v))
  unfolding accessed with_row first_of row
  writes_plain c t v o r h b = mem_na_write c t v _ _ o h b (here, else, cells) (moved, unmoved)
    where
      next : Machine
      next = accessed m i (Writes c t v)

      longer : List Write
      longer = set ws m.held (write c t v)

      more : (a s : ℕ) → (store_of next longer).history a s ≡ earlier ((store_of m ws).history a s) (shown_by (write c t v) a s)
      more a s = rw add-one (found_more (first_of m (a - 1)) ws (write c t v) a s m.held r)

      here : (store_of next longer).history c t ≡ Some v
      here = more c t ∙ ap (λ (f : Option ℕ). earlier f (shown_by (write c t v) c t)) h ∙ shown_here c t v

      else : (a s : ℕ) → Loc m.shape a → ((a ≡ c) × (s ≡ t) → ⊥) → (store_of next longer).history a s ≡ (store_of m ws).history a s
      else a s q n = more a s ∙ ap (earlier ((store_of m ws).history a s)) (shown_else c t v a s n) ∙ earlier_missing ((store_of m ws).history a s)

      cells : (A : Name) → Has m.shape A → SameAt m.shape (store_of m ws) (store_of next longer) A
      cells A q = same_at m.shape m next ws longer A (atomics_same m next refl refl refl refl A)

      moved : stamps_of next i c ≡ t
      moved = own (with_stamp (row m i) (c - 1) t) c ∙ stamp_here (row m i) (c - 1) t (placed c o).1

      unmoved : (a : ℕ) → Loc m.shape a → a ≢ c → stamps_of next i a ≡ stamps_of m i a
      unmoved a q n = own (with_stamp (row m i) (c - 1) t) a ∙ stamp_else (row m i) (c - 1) (a - 1) t (λ e. n (omega arith))

  -- thread i's view after the join with an atomic cell's
  joins : (A : Name) → Joined m.shape (stamps_of m i) ((store_of m ws).seen A) (stamps_of (read_atomic m i A) i)
  unfolding read_atomic met
  joins A a o = own (met m i A) a ∙ join_here (cells_of m) (row m i) (atomic_at m A).view (a - 1) (placed a o).0 (placed a o).1

  -- an atomic read
  pub reads_atomic : (A : Name) → Has m.shape A → Goes (rd_a A (atomic_at m A).value) (read_atomic m i A) ws
  unfolding read_atomic with_row first_of
  reads_atomic A h =
      mem_at_read A _ _ _ h refl
      ((λ a t o. refl), λ B q. same_at m.shape m (read_atomic m i A) ws ws B (atomics_same m (read_atomic m i A) refl refl refl refl B))
      (joins A)

  joins_too : (A : Name) (x : ℕ) → Joined m.shape (stamps_of m i) ((store_of m ws).seen A) (stamps_of (write_atomic m i A x) i)
  joins_too A x a o = ap (λ (v : View). stamp_of v (a - 1)) (row_written m i A x i) ∙ joins A a o

  -- what the cell is told is the same join
  tells : (A : Name) (a : ℕ) → Loc m.shape a → stamp_of (told m i A) (a - 1) ≡ max (stamps_of m i a) ((store_of m ws).seen A a)
  unfolding told
  tells A a o =
      join_here (cells_of m) (atomic_at m A).view (row m i) (a - 1) (placed a o).0 (omega (arith, W.seen A, W.rows i, (placed a o).1))
      ∙ max_comm ((store_of m ws).seen A a) (stamps_of m i a)

  -- there is room for a cell that there is
  roomy : (A : Name) → Has m.shape A → Room A
  roomy Head h = tt
  roomy Tail h = tt
  roomy (Flag f) h = omega (arith, B.flags)
  roomy (Status i) h = omega (arith, B.slots)

  -- the cell after an atomic write: its value, and the thread's view
  replaces : (A : Name) (x : ℕ) → Has m.shape A → Replaced m.shape (store_of m ws) A x (stamps_of (write_atomic m i A x) i) (store_of (write_atomic m i A x) ws)
  unfolding write_atomic read_atomic with_row first_of
  replaces A x h = (ap (λ (a : Atomic). a.value) here, seen, others, histories)
    where
      next : Machine
      next = write_atomic m i A x

      here : atomic_at next A ≡ atomic x (told m i A)
      here = atomic_here (read_atomic m i A) A (atomic x (told m i A)) W.flags W.statuses (roomy A h)

      seen : SameView m.shape (stamps_of next i) ((store_of next ws).seen A)
      seen a o = ap (λ (c : Atomic). stamp_of c.view (a - 1)) here ∙ tells A a o ∙ sym (joins_too A x a o)

      others : (D : Name) → Has m.shape D → D ≢ A → SameAt m.shape (store_of m ws) (store_of next ws) D
      others D q n =
          same_at m.shape m next ws ws D
          (atomic_else (read_atomic m i A) A D (atomic x (told m i A)) n ∙ atomics_same m (read_atomic m i A) refl refl refl refl D)

      histories : SameHistories m.shape (store_of m ws) (store_of next ws)
      histories a t o =
          atomic_leaves (λ s h f vs ts. found (given_if (ltb (a - 1) s.plain) (get_or f (a - 1) 0)) ws a t h) (read_atomic m i A) A (atomic x (told m i A))

  -- an atomic write
  pub writes_atomic : (A : Name) (x : ℕ) → Has m.shape A → Goes (wr_a A x) (write_atomic m i A x) ws
  writes_atomic A x h = mem_at_write A x _ _ h (joins_too A x) (replaces A x h)

  -- a swap that is won
  pub swaps_atomic : (A : Name) (u x : ℕ) → Has m.shape A → (atomic_at m A).value ≡ u → Goes (rdwr_a A u x) (write_atomic m i A x) ws
  swaps_atomic A u x h e = mem_at_read_write A u x _ _ h e (joins_too A x) (replaces A x h)
