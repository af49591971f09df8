-- Any two results that a public contract allows are equal, and so is every lent record afterwards. Assumes nothing.
use mathlib.Core.Path.{◌≡◌, ap}
use mathlib.Core.List.{List}
use Rattle.laws.proofs.Determined.{determined, OneResult}
use Rattle.rules.specs.Step.{Outcome, outcome}
use Rattle.rules.specs.declared.Done.{Done}
use Rattle.writes.specs.declared.Write.{Write}
use Rattle.machine.proofs.step.Reads as step
use Rattle.machine.proofs.step_by.Reads as step_by
use Rattle.machine.proofs.content.Reads as content

pub content-determined : OneResult content.Post
content-determined κs a x y e f = determined

-- one outcome: one answer and machine, and one list
left-determined : {x y : Done} {us vs : List Write} {o : Outcome} → outcome x us ≡ o → outcome y vs ≡ o → (x ≡ y) × (us ≡ vs)
left-determined p q =
    let e = determined p q in
    (ap (λ (o : Outcome). o.done) e, ap (λ (o : Outcome). o.writes) e)

-- the answer, the machine and every lent record
pub step-determined : (κs : _) (a : _) (x y : _) (e f : _) → step.Post κs a x e → step.Post κs a y f → (x ≡ y) × (e.1.0.now ≡ f.1.0.now)
step-determined κs a x y e f = left-determined

pub step_by-determined : (κs : _) (a : _) (x y : _) (e f : _)
    → step_by.Post κs a x e → step_by.Post κs a y f → (x ≡ y) × (e.1.0.now ≡ f.1.0.now)
step_by-determined κs a x y e f = left-determined
