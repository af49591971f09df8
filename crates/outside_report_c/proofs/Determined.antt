-- Any two results that the public contract allows are equal, and so is every lent byte and number afterwards. Assumes nothing.
use mathlib.Core.Path.{◌≡◌}
use Rattle.outside_report.proofs.Determined.{one_call}
use Rattle.outside_report_c.proofs.dentralupo_report.Reads as dentralupo_report

pub dentralupo_report-determined : (κs : _) (a : _) (x y : _) (e f : _) → dentralupo_report.Post κs a x e → dentralupo_report.Post κs a y f
    → (x ≡ y) × (e.1.0.now ≡ f.1.0.now) × (e.1.1.0.now ≡ f.1.1.0.now) × (e.1.1.1.0.now ≡ f.1.1.1.0.now) × (e.1.1.1.1.0.now ≡ f.1.1.1.1.0.now)
dentralupo_report-determined κs a x y e f p q = one_call p.0 q.0
