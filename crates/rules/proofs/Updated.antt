-- A function changed at one number. Assumes nothing.
use mathlib.Core.Path.{◌≡◌, sym, ap, subst, ◌∙◌}
use mathlib.Core.Path.{refl}
use mathlib.Core.Logic.{◌≢◌}
use Prim.Native.Nat.{ℕ}
use native.Mathlib.Decide.{ℕ_discrete}
use borrow.Author.Tests.{eq-eqb, ne_eqb}
use Rattle.rules.specs.Log.{with}

-- f' is f with a at i
pub record Updated {A : Type 0} (f : ℕ → A) (i : ℕ) (a : A) (f' : ℕ → A) : Type 0 where
  pub here : f' i ≡ a
  pub else : (j : ℕ) → j ≢ i → f' j ≡ f j

-- what holds of the new value where it stands and of the others where they stand
pub at_each : {A : Type 0} {f : ℕ → A} {i : ℕ} {a : A} {f' : ℕ → A} → Updated f i a f'
    → (P : A → Type 0) (j : ℕ) → (j ≡ i → P a) → (j ≢ i → P (f j)) → P (f' j)
at_each {f = f} {i} {a} {f'} u P j p q = go (ℕ_discrete j i)
  where
    go : Dec (j ≡ i) → P (f' j)
    go (yes e) = subst P (sym (ap f' e ∙ u.here)) (p e)
    go (no n) = subst P (sym (u.else j n)) (q n)

-- the same of two functions changed at one number
pub at_both : {A B : Type 0} {f : ℕ → A} {g : ℕ → B} {i : ℕ} {a : A} {b : B} {f' : ℕ → A} {g' : ℕ → B} → Updated f i a f' → Updated g i b g'
    → (P : A → B → Type 0) (j : ℕ) → (j ≡ i → P a b) → (j ≢ i → P (f j) (g j)) → P (f' j) (g' j)
at_both {f = f} {g} {i} {a} {b} {f'} {g'} u v P j x y =
    at_each u (λ z. P z (g' j)) j (λ e. subst (P a) (sym (ap g' e ∙ v.here)) (x e)) (λ n. subst (P (f j)) (sym (v.else j n)) (y n))

-- what a function makes of the values changes with them
pub mapped : {A B : Type 0} {f : ℕ → A} {i : ℕ} {a : A} {f' : ℕ → A} (g : A → B) → Updated f i a f' → Updated (λ j. g (f j)) i (g a) (λ j. g (f' j))
mapped g u = record { here = ap g u.here; else = λ j n. ap g (u.else j n) }

-- the change that notes are made by
pub changed : {A : Type 0} (f : ℕ → A) (i : ℕ) (a : A) → Updated f i a (with f i a)
unfolding with
changed f i a = record { here = rw (eq-eqb i i refl); else = λ k n. rw (ne_eqb k i n) }
