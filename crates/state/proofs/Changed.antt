-- What stands at each place of a machine after one place is changed. Assumes nothing.
use mathlib.Core.Path.{◌≡◌, refl, ap}
use mathlib.Core.List.{List}
use mathlib.Core.Logic.{◌≢◌}
use Prim.Native.Nat.{ℕ, ◌<◌}
use native.Mathlib.Omega.{arith}
use lib.ListN.{length, get_or}
use Rattle.laws.proofs.Lists.{set_here, set_else}
use Rattle.state.specs.State.{zero_atomic, at, row, with_row, place, with_place, atomic_at, with_atomic}
use Rattle.state.specs.declared.Atomic.{Atomic}
use Rattle.state.specs.declared.Machine.{Machine}
use Rattle.state.specs.declared.Name.{Name}
use Rattle.state.specs.declared.Name.TheVariants.{Head, Tail, Flag, Status}
use Rattle.state.specs.declared.Place.{Place}
use Rattle.state.specs.declared.Place.TheVariants.{Idle}
use Rattle.state.specs.declared.Shape.{Shape}
use Rattle.state.specs.declared.Thread.{Thread}
use Rattle.view.specs.View.{zero_view, stamp_of, with_stamp}
use Rattle.view.specs.declared.View.{View}

-- a view with one stamp changed
pub stamp_here : (v : View) (i t : ℕ) → i < length v.at → stamp_of (with_stamp v i t) i ≡ t
unfolding stamp_of with_stamp
stamp_here v i t h = set_here v.at i t 0 h

pub stamp_else : (v : View) (i j t : ℕ) → j ≢ i → stamp_of (with_stamp v i t) j ≡ stamp_of v j
unfolding stamp_of with_stamp
stamp_else v i j t n = set_else v.at i j t 0 n

-- a machine with one row replaced
pub row_here : (m : Machine) (i : ℕ) (v : View) → i < length m.views → row (with_row m i v) i ≡ v
unfolding row with_row
row_here m i v h = set_here m.views i v zero_view h

pub row_else : (m : Machine) (i j : ℕ) (v : View) → j ≢ i → row (with_row m i v) j ≡ row m j
unfolding row with_row
row_else m i j v n = set_else m.views i j v zero_view n

-- a machine with one thread at another place
pub place_here : (m : Machine) (i : ℕ) (p : Place) → i < length m.threads → place (with_place m i p) i ≡ p
unfolding place with_place
place_here m i p h = ap (λ (t : Thread). t.place) (set_here m.threads i (at p) (at Idle) h)

pub place_else : (m : Machine) (i j : ℕ) (p : Place) → j ≢ i → place (with_place m i p) j ≡ place m j
unfolding place with_place
place_else m i j p n = ap (λ (t : Thread). t.place) (set_else m.threads i j (at p) (at Idle) n)

-- an atomic cell that there is room for
abbrev pub Room : Name → Type 0
Room Head = Unit {0}
Room Tail = Unit {0}
Room (Flag f) = f < 8
Room (Status s) = s < 16

-- a machine with one atomic cell replaced
pub atomic_here : (m : Machine) (A : Name) (a : Atomic) → length m.flags ≡ 8 → length m.statuses ≡ 16 → Room A
    → atomic_at (with_atomic m A a) A ≡ a
unfolding atomic_at with_atomic
atomic_here m Head a f s h = refl
atomic_here m Tail a f s h = refl
atomic_here m (Flag k) a f s h = set_here m.flags k a zero_atomic (omega arith)
atomic_here m (Status k) a f s h = set_here m.statuses k a zero_atomic (omega arith)

pub atomic_else : (m : Machine) (A B : Name) (a : Atomic) → B ≢ A → atomic_at (with_atomic m A a) B ≡ atomic_at m B
unfolding atomic_at with_atomic
atomic_else m Head Head a n = absurd (n refl)
atomic_else m Head Tail a n = refl
atomic_else m Head (Flag g) a n = refl
atomic_else m Head (Status z) a n = refl
atomic_else m Tail Head a n = refl
atomic_else m Tail Tail a n = absurd (n refl)
atomic_else m Tail (Flag g) a n = refl
atomic_else m Tail (Status z) a n = refl
atomic_else m (Flag f) Head a n = refl
atomic_else m (Flag f) Tail a n = refl
atomic_else m (Flag f) (Flag g) a n = set_else m.flags f g a zero_atomic (λ e. n (ap Flag e))
atomic_else m (Flag f) (Status z) a n = refl
atomic_else m (Status s) Head a n = refl
atomic_else m (Status s) Tail a n = refl
atomic_else m (Status s) (Flag g) a n = refl
atomic_else m (Status s) (Status z) a n = set_else m.statuses s z a zero_atomic (λ e. n (ap Status e))

-- machines with the same flags, head, tail and statuses have the same atomic cells
pub atomics_same : (m n : Machine) → n.flags ≡ m.flags → n.head ≡ m.head → n.tail ≡ m.tail → n.statuses ≡ m.statuses
    → (A : Name) → atomic_at n A ≡ atomic_at m A
unfolding atomic_at
atomics_same m n f h t s Head = h
atomics_same m n f h t s Tail = t
atomics_same m n f h t s (Flag k) = ap (λ (l : List Atomic). get_or l k zero_atomic) f
atomics_same m n f h t s (Status k) = ap (λ (l : List Atomic). get_or l k zero_atomic) s

-- an atomic cell replaced leaves all else
pub atomic_leaves : {B : Type 0} (f : Shape → ℕ → List ℕ → List View → List Thread → B) (m : Machine) (A : Name) (a : Atomic)
    → f (with_atomic m A a).shape (with_atomic m A a).held (with_atomic m A a).firsts (with_atomic m A a).views (with_atomic m A a).threads
    ≡ f m.shape m.held m.firsts m.views m.threads
unfolding with_atomic
atomic_leaves f m Head a = refl
atomic_leaves f m Tail a = refl
atomic_leaves f m (Flag k) a = refl
atomic_leaves f m (Status k) a = refl
