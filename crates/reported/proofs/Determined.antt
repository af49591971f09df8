-- Any two results that a public contract allows are equal, and so is every lent byte afterwards. Assumes nothing.
use mathlib.Core.Path.{◌≡◌, ap}
use mathlib.Core.List.{List}
use Prim.Native.Nat.{ℕ}
use Rattle.laws.proofs.Determined.{determined}
use Rattle.printed.specs.Printed.{Page}
use Rattle.reported.specs.Buffer.{Reports}
use Rattle.reported.specs.Report.{Lines}
use Rattle.reported.specs.declared.Reported.{Reported}
use Rattle.reported.proofs.report.Reads as report

-- a report in a buffer: its first line, the place after the others, the buffer
one_report : {x : Lines} {l m k : List ℕ} {r q : Reported} → Reports x l r m → Reports x l q k → (r ≡ q) × (m ≡ k)
one_report p q =
    let first = determined p.first q.first in
    let rest = determined p.rest q.rest in
    (λ i. record { first = first i; upto = (rest i).upto }, ap (λ (b : Page). b.buffer) rest)

pub report-determined : (κs : _) (a : _) (x y : _) (e f : _) → report.Post κs a x e → report.Post κs a y f → (x ≡ y) × (e.1.0.now ≡ f.1.0.now)
report-determined κs a x y e f p q = one_report p q
