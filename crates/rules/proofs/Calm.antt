-- What an event leaves of head, tail and the statuses. Assumes nothing.
use mathlib.Core.Path.{◌≡◌, refl, sym, ap, ◌∙◌}
use mathlib.Core.Logic.{◌≢◌}
use Prim.Native.Nat.{ℕ, zero, suc}
use native.Mathlib.Decide.{ℕ_discrete}
use native.Mathlib.Omega.{arith}
use Rattle.atomic.specs.Atomic.{told}
use Rattle.rules.proofs.Events.{Storing}
use Rattle.rules.proofs.Updated.{Updated}
use Rattle.state.specs.State.{atomic, atomic_at}
use Rattle.state.specs.declared.Atomic.{Atomic}
use Rattle.state.specs.declared.Machine.{Machine}
use Rattle.state.specs.declared.Name.{Name}
use Rattle.state.specs.declared.Name.TheVariants.{Head, Tail, Flag, Status}
use Rattle.state.specs.declared.Place.{Place}

-- the atomic cell of a slot
abbrev pub status_at : Machine → ℕ → Atomic
status_at m z = atomic_at m (Status z)

-- head, tail and the statuses are as they were
pub record Calm (m n : Machine) : Type 0 where
  pub head : n.head.value ≡ m.head.value
  pub tail : n.tail.value ≡ m.tail.value
  pub statuses : (z : ℕ) → status_at n z ≡ status_at m z

abbrev kind : Name → ℕ
kind Head = 0
kind Tail = 1
kind (Flag f) = 2
kind (Status z) = 3

abbrev number : Name → ℕ
number Head = 0
number Tail = 0
number (Flag f) = f
number (Status z) = z

abbrev name_of : ℕ → ℕ → Name
name_of zero k = Head
name_of (suc zero) k = Tail
name_of (suc (suc zero)) k = Flag k
name_of (suc (suc (suc n))) k = Status k

name_back : (a : Name) → name_of (kind a) (number a) ≡ a
name_back Head = refl
name_back Tail = refl
name_back (Flag f) = refl
name_back (Status z) = refl

-- two names are one or not
pub same_name : (a b : Name) → Dec (a ≡ b)
same_name a b = go (ℕ_discrete (kind a) (kind b)) (ℕ_discrete (number a) (number b))
  where
    go : Dec (kind a ≡ kind b) → Dec (number a ≡ number b) → Dec (a ≡ b)
    go (yes e) (yes d) = yes (sym (name_back a) ∙ ap (λ (x : ℕ). name_of x (number a)) e ∙ ap (name_of (kind b)) d ∙ name_back b)
    go (yes e) (no d) = no (λ p. d (ap number p))
    go (no e) d = no (λ p. e (ap kind p))

-- names of two kinds are two names
other : (a b : Name) → kind a ≢ kind b → a ≢ b
other a b n e = n (ap kind e)

pub all_calm : (m n : Machine) → ((a : Name) → atomic_at n a ≡ atomic_at m a) → Calm m n
unfolding atomic_at
all_calm m n h = record { head = ap (λ (x : Atomic). x.value) (h Head); tail = ap (λ (x : Atomic). x.value) (h Tail); statuses = λ z. h (Status z) }

module _ (m : Machine) (i x : ℕ) (q : Place) (n : Machine) where
  pub flag_calm : (f : ℕ) → Storing m i (Flag f) x q n → Calm m n
  unfolding atomic_at
  flag_calm f s =
      record {
        head = ap (λ (y : Atomic). y.value) (s.else Head (other Head (Flag f) (λ e. omega arith)));
        tail = ap (λ (y : Atomic). y.value) (s.else Tail (other Tail (Flag f) (λ e. omega arith)));
        statuses = λ z. s.else (Status z) (other (Status z) (Flag f) (λ e. omega arith));
      }

  -- what a store in head, in tail or in a status leaves
  pub head_stored : Storing m i Head x q n → (n.head.value ≡ x) × (n.tail.value ≡ m.tail.value) × ((z : ℕ) → status_at n z ≡ status_at m z)
  unfolding atomic_at
  head_stored s = (
    ap (λ (y : Atomic). y.value) s.here,
    ap (λ (y : Atomic). y.value) (s.else Tail (other Tail Head (λ e. omega arith))),
    λ z. s.else (Status z) (other (Status z) Head (λ e. omega arith)),
  )

  pub tail_stored : Storing m i Tail x q n → (n.head.value ≡ m.head.value) × (n.tail.value ≡ x) × ((z : ℕ) → status_at n z ≡ status_at m z)
  unfolding atomic_at
  tail_stored s = (
    ap (λ (y : Atomic). y.value) (s.else Head (other Head Tail (λ e. omega arith))),
    ap (λ (y : Atomic). y.value) s.here,
    λ z. s.else (Status z) (other (Status z) Tail (λ e. omega arith)),
  )

  pub status_stored : (k : ℕ) → Storing m i (Status k) x q n
      → (n.head.value ≡ m.head.value) × (n.tail.value ≡ m.tail.value) × Updated (status_at m) k (atomic x (told m i (Status k))) (status_at n)
  unfolding atomic_at
  status_stored k s = (
    ap (λ (y : Atomic). y.value) (s.else Head (other Head (Status k) (λ e. omega arith))),
    ap (λ (y : Atomic). y.value) (s.else Tail (other Tail (Status k) (λ e. omega arith))),
    record { here = s.here; else = λ z d. s.else (Status z) (λ e. d (ap number e)) },
  )
