-- Any two results that a public contract allows are equal, and so is every lent byte afterwards. Assumes nothing.
use mathlib.Core.Path.{◌≡◌}
use Rattle.laws.proofs.Determined.{determined, OneResult}
use Rattle.turn.proofs.begin.Reads as begin
use Rattle.turn.proofs.finish.Reads as finish
use Rattle.turn.proofs.go_on.Reads as go_on
use Rattle.turn.proofs.next_step.Reads as next_step
use Rattle.turn.proofs.no_writes.Reads as no_writes

pub next_step-determined : OneResult next_step.Post
next_step-determined κs a x y e f = determined

pub begin-determined : OneResult begin.Post
begin-determined κs a x y e f = determined

pub go_on-determined : (κs : _) (a : _) (x y : _) (e f : _) → go_on.Post κs a x e → go_on.Post κs a y f → (x ≡ y) × (e.1.0.now ≡ f.1.0.now)
go_on-determined κs a x y e f p q = (determined p.0 q.0, determined p.1 q.1)

pub finish-determined : OneResult finish.Post
finish-determined κs a x y e f = determined

pub no_writes-determined : OneResult no_writes.Post
no_writes-determined κs a x y e f = determined
