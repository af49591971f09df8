-- Every entry of a list and every atomic cell of a machine, one of them replaced. Assumes nothing.
use mathlib.Core.List.{List, [], ◌∷◌}
use Prim.Native.Nat.{ℕ, zero, suc}
use lib.ListN.{get_or, set}
use Rattle.state.specs.State.{zero_atomic, atomic_at, with_atomic}
use Rattle.state.specs.declared.Atomic.{Atomic}
use Rattle.state.specs.declared.Machine.{Machine}
use Rattle.state.specs.declared.Name.{Name}
use Rattle.state.specs.declared.Name.TheVariants.{Head, Tail, Flag, Status}

-- what holds of the new entry at its place and of the old one at another place
pub set_each : {A : Type 0} (P : ℕ → A → Type 0) (l : List A) (i j : ℕ) (a d : A) → P i a → P j (get_or l j d) → P j (get_or (set l i a) j d)
set_each P [] i j a d p q = q
set_each P (x ∷ l) zero zero a d p q = p
set_each P (x ∷ l) zero (suc j) a d p q = q
set_each P (x ∷ l) (suc i) zero a d p q = q
set_each P (x ∷ l) (suc i) (suc j) a d p q = set_each (λ k. P (suc k)) l i j a d p q

-- what holds of the new cell at its name and of the old one at another name
pub atomic_each : (P : Name → Atomic → Type 0) (m : Machine) (a b : Name) (x : Atomic) → P a x → P b (atomic_at m b)
    → P b (atomic_at (with_atomic m a x) b)
unfolding atomic_at with_atomic
atomic_each P m Head Head x p q = p
atomic_each P m Head Tail x p q = q
atomic_each P m Head (Flag g) x p q = q
atomic_each P m Head (Status z) x p q = q
atomic_each P m Tail Head x p q = q
atomic_each P m Tail Tail x p q = p
atomic_each P m Tail (Flag g) x p q = q
atomic_each P m Tail (Status z) x p q = q
atomic_each P m (Flag f) Head x p q = q
atomic_each P m (Flag f) Tail x p q = q
atomic_each P m (Flag f) (Flag g) x p q = set_each (λ k. P (Flag k)) m.flags f g x zero_atomic p q
atomic_each P m (Flag f) (Status z) x p q = q
atomic_each P m (Status s) Head x p q = q
atomic_each P m (Status s) Tail x p q = q
atomic_each P m (Status s) (Flag g) x p q = q
atomic_each P m (Status s) (Status z) x p q = set_each (λ k. P (Status k)) m.statuses s z x zero_atomic p q
