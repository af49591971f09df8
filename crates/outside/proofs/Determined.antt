-- Any two results that the public contract allows are equal, and so is every lent number and record afterwards. Assumes nothing.
use mathlib.Core.Path.{◌≡◌, ap}
use mathlib.Core.List.{List}
use Prim.Native.Nat.{ℕ}
use Rattle.laws.proofs.Determined.{determined}
use Rattle.outside.specs.Call.{Lent, lent}
use Rattle.writes.specs.declared.Write.{Write}
use Rattle.outside.proofs.dentralupo_step.Reads as dentralupo_step

-- one call: the number, and all that is lent
pub one_call : {m n : ℕ} {s t a b : List ℕ} {us vs : List Write} {l : Lent} → lent m s us a ≡ l → lent n t vs b ≡ l
    → (m ≡ n) × (s ≡ t) × (us ≡ vs) × (a ≡ b)
one_call p q =
    let z = determined p q in
    (ap (λ (l : Lent). l.number) z, ap (λ (l : Lent). l.state) z, ap (λ (l : Lent). l.writes) z, ap (λ (l : Lent). l.answer) z)

pub dentralupo_step-determined : (κs : _) (a : _) (x y : _) (e f : _) → dentralupo_step.Post κs a x e → dentralupo_step.Post κs a y f
    → (x ≡ y) × (e.0.now ≡ f.0.now) × (e.1.0.now ≡ f.1.0.now) × (e.1.1.1.0.now ≡ f.1.1.1.0.now)
dentralupo_step-determined κs a x y e f = one_call
