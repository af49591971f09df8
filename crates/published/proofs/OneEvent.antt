-- From one store and view, a code makes one event at a time stamp. Assumes nothing.
use mathlib.Core.Path.{◌≡◌, refl, sym, ap, ◌∙◌}
use Prim.Native.Nat.{ℕ}
use Rattle.std.specs.Prelude.{Option, Some}
use Rattle.published.specs.Calls.{write, Code, Makes, read, read_at, write_at, swap_won, swap_lost}
use Rattle.published.specs.Follows.{OneEvent}
use Rattle.published.specs.Memory.{Loc, Has, Stamps, Memory, Event, Rule, rd, rd_a, mem_na_read, mem_at_read, mem_at_read_write}
use Rattle.state.specs.declared.Name.{Name}
use Rattle.state.specs.declared.Shape.{Shape}

-- a history has one value at a time stamp
one_value : (f : Option ℕ) (v u : ℕ) → f ≡ Some v → f ≡ Some u → v ≡ u
one_value f v u p q = cc

-- two stores that agree where they are, in histories and values
pub record Shared (D : Shape) (σ τ : Memory) : Type 0 where
  pub history : (a t : ℕ) → Loc D a → σ.history a t ≡ τ.history a t
  pub value : (A : Name) → Has D A → σ.value A ≡ τ.value A

-- from stores that agree, a code makes the same event
pub same_event : {D : Shape} {t : ℕ} {σ σ' τ τ' : Memory} {W W' X X' : Stamps} {c d d' : Code} {e e' : Event} → Shared D σ τ
    → Makes c t e d → Rule D σ W e σ' W' → Makes c t e' d' → Rule D τ X e' τ' X' → (e ≡ e') × (d ≡ d')
same_event S (read a f t v) (mem_na_read _ _ _ _ _ o p _ _ _) (read _ _ _ u) (mem_na_read _ _ _ _ _ _ q _ _ _) =
    let one = one_value _ v u p (S.history a t o ∙ q) in
    (ap (rd a t) one, ap f one)
same_event S (write _ _ _ _) _ (write _ _ _ _) _ = (refl, refl)
same_event S (read_at A f _ _) (mem_at_read _ _ _ _ h p _ _) (read_at _ _ _ _) (mem_at_read _ _ _ _ _ q _ _) =
    let one = sym p ∙ S.value A h ∙ q in
    (ap (rd_a A) one, ap f one)
same_event S (write_at _ _ _ _) _ (write_at _ _ _ _) _ = (refl, refl)
same_event S (swap_won _ _ _ _ _ _) _ (swap_won _ _ _ _ _ _) _ = (refl, refl)
same_event S (swap_won A _ _ _ _ _) (mem_at_read_write _ _ _ _ _ h p _ _) (swap_lost _ _ _ _ _ _ _ n) (mem_at_read _ _ _ _ _ q _ _) =
    absurd (n (sym q ∙ sym (S.value A h) ∙ p))
same_event S (swap_lost A _ _ _ _ _ _ n) (mem_at_read _ _ _ _ h q _ _) (swap_won _ _ _ _ _ _) (mem_at_read_write _ _ _ _ _ _ p _ _) =
    absurd (n (sym q ∙ S.value A h ∙ p))
same_event S (swap_lost A _ _ _ _ _ _ _) (mem_at_read _ _ _ _ h p _ _) (swap_lost _ _ _ _ _ _ _ _) (mem_at_read _ _ _ _ _ q _ _) =
    (ap (rd_a A) (sym p ∙ S.value A h ∙ q), refl)

pub one_event : OneEvent
one_event D σ σ' σ'' W W' W'' c d d' t e e' = same_event (record { history = λ a t o. refl; value = λ A h. refl })
