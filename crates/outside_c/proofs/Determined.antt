-- Any two results that the public contract allows are equal, and so is every lent number and record afterwards. Assumes nothing.
use mathlib.Core.Path.{◌≡◌}
use Rattle.outside.proofs.Determined.{one_call}
use Rattle.outside_c.proofs.dentralupo_step.Reads as dentralupo_step

pub dentralupo_step-determined : (κs : _) (a : _) (x y : _) (e f : _) → dentralupo_step.Post κs a x e → dentralupo_step.Post κs a y f
    → (x ≡ y) × (e.0.now ≡ f.0.now) × (e.1.0.now ≡ f.1.0.now) × (e.1.1.1.0.now ≡ f.1.1.1.0.now)
dentralupo_step-determined κs a x y e f = one_call
