-- The memory rules as published: source 000, Fig. 1 and Fig. 2 less its two rules of allocation, which document 01 does not cover. The time
-- stamp that a rule leaves open is part of the event. Assumes nothing.
use Rattle.std.specs.Prelude.{◌≡◌, ◌≢◌, ℕ, ◌+◌, ◌<◌, ◌≤◌, max, Option, Some, None}
use Rattle.state.specs.declared.Name.{Name}
use Rattle.state.specs.declared.Name.TheVariants.{Head, Tail, Flag, Status}
use Rattle.state.specs.declared.Shape.{Shape}

-- a ∈ dom σ, a plain location: the plain cells, then the slots, from 1
abbrev pub Loc : Shape → ℕ → Type 0
Loc D a = (1 ≤ a) × (a ≤ D.plain + D.slots)

-- A ∈ dom σ, an atomic location
abbrev pub Has : Shape → Name → Type 0
Has D Head = Unit {0}
Has D Tail = Unit {0}
Has D (Flag f) = f < D.flags
Has D (Status i) = i < D.slots

-- a view: time stamps by plain location
abbrev pub Stamps : Type 0
Stamps = ℕ → ℕ

-- a store σ: a history (values by time stamp) for each plain location, a value and a view for each atomic one
pub record Memory : Type 0 where
  pub history : ℕ → ℕ → Option ℕ
  pub value : Name → ℕ
  pub seen : Name → Stamps

-- m ::= rd(a, v) | wr(a, v) | rd(A, v) | wr(A, v) | rdwr(A, v, v'), those of a plain location at a time stamp
pub data Event : Type 0 where
  rd : ℕ → ℕ → ℕ → Event
  wr : ℕ → ℕ → ℕ → Event
  rd_a : Name → ℕ → Event
  wr_a : Name → ℕ → Event
  rdwr_a : Name → ℕ → ℕ → Event

-- W' = W
abbrev pub SameView : Shape → Stamps → Stamps → Type 0
SameView D W W' = (a : ℕ) → Loc D a → W' a ≡ W a

-- W' = W ⊔ U, pointwise maximum
abbrev pub Joined : Shape → Stamps → Stamps → Stamps → Type 0
Joined D W U W' = (a : ℕ) → Loc D a → W' a ≡ max (W a) (U a)

-- W' = W[a ↦ t]
abbrev pub Moved : Shape → Stamps → ℕ → ℕ → Stamps → Type 0
Moved D W a t W' = (W' a ≡ t) × ((b : ℕ) → Loc D b → b ≢ a → W' b ≡ W b)

-- the histories of σ' are those of σ
abbrev pub SameHistories : Shape → Memory → Memory → Type 0
SameHistories D σ σ' = (a t : ℕ) → Loc D a → σ'.history a t ≡ σ.history a t

-- σ'(A) = σ(A)
abbrev pub SameAt : Shape → Memory → Memory → Name → Type 0
SameAt D σ σ' A = (σ'.value A ≡ σ.value A) × SameView D (σ.seen A) (σ'.seen A)

-- σ' = σ[a ↦ h'] with h' = h[t ↦ v]
abbrev pub Extended : Shape → Memory → ℕ → ℕ → ℕ → Memory → Type 0
Extended D σ a t v σ' =
    (σ'.history a t ≡ Some v)
    × ((b s : ℕ) → Loc D b → ((b ≡ a) × (s ≡ t) → ⊥) → σ'.history b s ≡ σ.history b s)
    × ((A : Name) → Has D A → SameAt D σ σ' A)

-- σ' = σ
abbrev pub SameStore : Shape → Memory → Memory → Type 0
SameStore D σ σ' = SameHistories D σ σ' × ((A : Name) → Has D A → SameAt D σ σ' A)

-- σ' = σ[A ↦ ⟨v, U⟩]
abbrev pub Replaced : Shape → Memory → Name → ℕ → Stamps → Memory → Type 0
Replaced D σ A v U σ' =
    (σ'.value A ≡ v) × SameView D U (σ'.seen A) × ((B : Name) → Has D B → B ≢ A → SameAt D σ σ' B) × SameHistories D σ σ'

-- σ; W → σ'; W' by an event
pub data Rule (D : Shape) (σ : Memory) (W : Stamps) : Event → Memory → Stamps → Type 0 where
  mem_na_read : (a t v : ℕ) (σ' : Memory) (W' : Stamps) → Loc D a → σ.history a t ≡ Some v → W a ≤ t → SameStore D σ σ' → SameView D W W' → Rule D σ W (rd a t v) σ' W'
  mem_na_write : (a t v : ℕ) (σ' : Memory) (W' : Stamps) → Loc D a → σ.history a t ≡ None → W a < t → Extended D σ a t v σ' → Moved D W a t W' → Rule D σ W (wr a t v) σ' W'
  mem_at_read : (A : Name) (v : ℕ) (σ' : Memory) (W' : Stamps) → Has D A → σ.value A ≡ v → SameStore D σ σ' → Joined D W (σ.seen A) W' → Rule D σ W (rd_a A v) σ' W'
  mem_at_write : (A : Name) (v' : ℕ) (σ' : Memory) (W' : Stamps) → Has D A → Joined D W (σ.seen A) W' → Replaced D σ A v' W' σ' → Rule D σ W (wr_a A v') σ' W'
  mem_at_read_write : (A : Name) (v v' : ℕ) (σ' : Memory) (W' : Stamps) → Has D A → σ.value A ≡ v → Joined D W (σ.seen A) W' → Replaced D σ A v' W' σ' → Rule D σ W (rdwr_a A v v') σ' W'
