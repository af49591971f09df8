-- Any two results that a public contract allows are equal, and so is every lent byte afterwards. Assumes nothing.
use mathlib.Core.Path.{◌≡◌}
use Rattle.laws.proofs.Determined.{determined, OneResult}
use Rattle.printed.proofs.put_printed.Reads as put_printed
use Rattle.printed.proofs.put_next.Reads as put_next
use Rattle.printed.proofs.answer_line.Reads as answer_line

pub put_printed-determined : (κs : _) (a : _) (x y : _) (e f : _) → put_printed.Post κs a x e → put_printed.Post κs a y f → (x ≡ y) × (e.0.now ≡ f.0.now)
put_printed-determined κs a x y e f p q = (determined p.0 q.0, determined p.1 q.1)

pub put_next-determined : (κs : _) (a : _) (x y : _) (e f : _) → put_next.Post κs a x e → put_next.Post κs a y f → (x ≡ y) × (e.0.now ≡ f.0.now)
put_next-determined κs a x y e f p q = (determined p.0 q.0, determined p.1 q.1)

pub answer_line-determined : OneResult answer_line.Post
answer_line-determined κs a x y e f = determined
