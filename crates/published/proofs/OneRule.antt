-- A rule takes stores and views that agree to such: what it leaves is determined where the store is. Assumes nothing.
use mathlib.Core.Path.{◌≡◌, refl, sym, ap, ◌∙◌}
use mathlib.Core.Logic.{◌⊎◌, inl}
use Prim.Native.Nat.{ℕ, max}
use native.Mathlib.Omega.{arith}
use native.Mathlib.Decide.{map_dec, ℕ_discrete}
use Rattle.laws.proofs.Choice.{split}
use Rattle.published.specs.Memory.{Loc, Has, Stamps, Memory, Event, SameAt, Replaced, Rule, mem_na_read, mem_na_write, mem_at_read, mem_at_write, mem_at_read_write}
use Rattle.rules.specs.Kept.{Lacks}
use Rattle.state.specs.declared.Name.{Name}
use Rattle.state.specs.declared.Name.TheVariants.{Head, Tail, Flag, Status}
use Rattle.state.specs.declared.Shape.{Shape}

-- a machine has an atomic cell or lacks it
pub has_or_lacks : (D : Shape) (A : Name) → Has D A ⊎ Lacks D A
has_or_lacks D Head = inl tt
has_or_lacks D Tail = inl tt
has_or_lacks D (Flag f) = split f D.flags
has_or_lacks D (Status i) = split i D.slots

abbrev kind : Name → ℕ
kind Head = 0
kind Tail = 1
kind (Flag f) = 2
kind (Status i) = 3

name_eq : (A B : Name) → Dec (A ≡ B)
name_eq Head Head = yes refl
name_eq Head Tail = no (λ e. omega (arith, ap kind e))
name_eq Head (Flag g) = no (λ e. omega (arith, ap kind e))
name_eq Head (Status j) = no (λ e. omega (arith, ap kind e))
name_eq Tail Head = no (λ e. omega (arith, ap kind e))
name_eq Tail Tail = yes refl
name_eq Tail (Flag g) = no (λ e. omega (arith, ap kind e))
name_eq Tail (Status j) = no (λ e. omega (arith, ap kind e))
name_eq (Flag f) Head = no (λ e. omega (arith, ap kind e))
name_eq (Flag f) Tail = no (λ e. omega (arith, ap kind e))
name_eq (Flag f) (Flag g) = map_dec (ap Flag) (λ e. cc) (ℕ_discrete f g)
name_eq (Flag f) (Status j) = no (λ e. omega (arith, ap kind e))
name_eq (Status i) Head = no (λ e. omega (arith, ap kind e))
name_eq (Status i) Tail = no (λ e. omega (arith, ap kind e))
name_eq (Status i) (Flag g) = no (λ e. omega (arith, ap kind e))
name_eq (Status i) (Status j) = map_dec (ap Status) (λ e. cc) (ℕ_discrete i j)

-- two stores and views that agree in what is not history
pub record Agree (D : Shape) (σ τ : Memory) (W X : Stamps) : Type 0 where
  pub value : (A : Name) → Has D A → σ.value A ≡ τ.value A
  pub seen : (A : Name) → Has D A → (a : ℕ) → Loc D a → σ.seen A a ≡ τ.seen A a
  pub view : (a : ℕ) → Loc D a → W a ≡ X a

module _ (D : Shape) (σ τ : Memory) (W X : Stamps) (G : Agree D σ τ W X) where
  -- both views joined with the same cell's
  met : (A : Name) → Has D A → (a : ℕ) → Loc D a → max (W a) (σ.seen A a) ≡ max (X a) (τ.seen A a)
  met A h a o = rw (G.view a o, G.seen A h a o)

  -- no atomic cell changes
  stay : (σ' τ' : Memory) (W' X' : Stamps) → ((A : Name) → Has D A → SameAt D σ σ' A) → ((A : Name) → Has D A → SameAt D τ τ' A)
      → ((a : ℕ) → Loc D a → W' a ≡ X' a) → Agree D σ' τ' W' X'
  stay σ' τ' W' X' p q w = record {
    value = λ A h. (p A h).0 ∙ G.value A h ∙ sym (q A h).0;
    seen = λ A h a o. (p A h).1 a o ∙ G.seen A h a o ∙ sym ((q A h).1 a o);
    view = w;
  }

  -- one does
  change : (σ' τ' : Memory) (W' X' : Stamps) (A : Name) (v : ℕ) → Replaced D σ A v W' σ' → Replaced D τ A v X' τ'
      → ((a : ℕ) → Loc D a → W' a ≡ X' a) → Agree D σ' τ' W' X'
  change σ' τ' W' X' A v p q w = record { value = λ B h. values B h (name_eq B A); seen = λ B h. sights B h (name_eq B A); view = w }
    where
      values : (B : Name) → Has D B → Dec (B ≡ A) → σ'.value B ≡ τ'.value B
      values B h (yes e) = rw e (p.0 ∙ sym q.0)
      values B h (no n) = (p.2 B h n).0 ∙ G.value B h ∙ sym (q.2 B h n).0

      sights : (B : Name) → Has D B → Dec (B ≡ A) → (a : ℕ) → Loc D a → σ'.seen B a ≡ τ'.seen B a
      sights B h (yes e) a o = rw e (p.1 a o ∙ w a o ∙ sym (q.1 a o))
      sights B h (no n) a o = (p.2 B h n).1 a o ∙ G.seen B h a o ∙ sym ((q.2 B h n).1 a o)

  pub agree : (e : Event) (σ' τ' : Memory) (W' X' : Stamps) → Rule D σ W e σ' W' → Rule D τ X e τ' X' → Agree D σ' τ' W' X'
  agree _ _ _ _ _ (mem_na_read _ _ _ _ _ _ _ _ p v) (mem_na_read _ _ _ _ _ _ _ _ q w) =
      stay _ _ _ _ p.1 q.1 (λ a o. v a o ∙ G.view a o ∙ sym (w a o))
  agree _ _ _ _ _ (mem_na_write c _ _ _ _ _ _ _ p v) (mem_na_write _ _ _ _ _ _ _ _ q w) =
      stay _ _ _ _ p.2 q.2
      (λ a o. elim (ℕ_discrete a c) [ yes e ↦ rw e (v.0 ∙ sym w.0) | no n ↦ v.1 a o n ∙ G.view a o ∙ sym (w.1 a o n) ])
  agree _ _ _ _ _ (mem_at_read A _ _ _ h _ p v) (mem_at_read _ _ _ _ _ _ q w) = stay _ _ _ _ p.1 q.1 (λ a o. v a o ∙ met A h a o ∙ sym (w a o))
  agree _ _ _ _ _ (mem_at_write A x _ _ h v p) (mem_at_write _ _ _ _ _ w q) = change _ _ _ _ A x p q (λ a o. v a o ∙ met A h a o ∙ sym (w a o))
  agree _ _ _ _ _ (mem_at_read_write A _ x _ _ h _ v p) (mem_at_read_write _ _ _ _ _ _ _ w q) =
      change _ _ _ _ A x p q (λ a o. v a o ∙ met A h a o ∙ sym (w a o))
