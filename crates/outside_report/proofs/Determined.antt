-- Any two results that the public contract allows are equal, and so is every lent byte and number afterwards. Assumes nothing.
use mathlib.Core.Path.{◌≡◌, ap}
use mathlib.Core.List.{List}
use Prim.Native.Nat.{ℕ}
use Rattle.laws.proofs.Determined.{determined}
use Rattle.outside_report.specs.Call.{Lent, lent}
use Rattle.outside_report.proofs.dentralupo_report.Reads as dentralupo_report

-- one call: the number, and all that is lent
pub one_call : {m n i j p q : ℕ} {a b c d : List ℕ} {l : Lent} → lent m a i c p ≡ l → lent n b j d q ≡ l
    → (m ≡ n) × (a ≡ b) × (i ≡ j) × (c ≡ d) × (p ≡ q)
one_call e f =
    let z = determined e f in (
      ap (λ (l : Lent). l.number) z,
      ap (λ (l : Lent). l.first) z,
      ap (λ (l : Lent). l.stop) z,
      ap (λ (l : Lent). l.rest) z,
      ap (λ (l : Lent). l.upto) z,
    )

pub dentralupo_report-determined : (κs : _) (a : _) (x y : _) (e f : _) → dentralupo_report.Post κs a x e → dentralupo_report.Post κs a y f
    → (x ≡ y) × (e.1.0.now ≡ f.1.0.now) × (e.1.1.0.now ≡ f.1.1.0.now) × (e.1.1.1.0.now ≡ f.1.1.1.0.now) × (e.1.1.1.1.0.now ≡ f.1.1.1.1.0.now)
dentralupo_report-determined κs a x y e f p q = one_call p.0 q.0
