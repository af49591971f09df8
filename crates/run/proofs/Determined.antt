-- Any two results that a public contract allows are equal, and so is every lent byte afterwards. Assumes nothing.
use mathlib.Core.Path.{◌≡◌, ap}
use mathlib.Core.List.{List}
use Prim.Native.Nat.{ℕ}
use Rattle.laws.proofs.Determined.{determined}
use Rattle.printed.specs.Printed.{Page}
use Rattle.turn.specs.declared.Ended.{Ended}
use Rattle.run.specs.Ends.{Ends}
use Rattle.run.specs.Run.{Run}
use Rattle.run.proofs.run_steps.Reads as run_steps

-- a run in a buffer: the state, the refusal, the list, the place after the answers' lines, the buffer
one_end : {x : Run} {l m k : List ℕ} {r q : Ended} → Ends x l r m → Ends x l q k → (r ≡ q) × (m ≡ k)
one_end p q =
    let machine = determined p.machine q.machine in
    let refused = determined p.refused q.refused in
    let answers = determined p.answers q.answers in
    let writes = determined p.writes q.writes in
    (λ i. record { machine = machine i; refused = refused i; upto = (answers i).upto; writes = writes i }, ap (λ (b : Page). b.buffer) answers)

pub run_steps-determined : (κs : _) (a : _) (x y : _) (e f : _)
    → run_steps.Post κs a x e → run_steps.Post κs a y f → (x ≡ y) × (e.1.1.1.0.now ≡ f.1.1.1.0.now)
run_steps-determined κs a x y e f = one_end
