-- Any two results that a public contract allows are equal, and so is every lent byte afterwards. Assumes nothing.
use mathlib.Core.Path.{◌≡◌}
use Rattle.laws.proofs.Determined.{determined}
use Rattle.writer.proofs.put_word.Reads as put_word
use Rattle.writer.proofs.put_line.Reads as put_line

pub put_word-determined : (κs : _) (a : _) (x y : _) (e f : _) → put_word.Post κs a x e → put_word.Post κs a y f → (x ≡ y) × (e.0.now ≡ f.0.now)
put_word-determined κs a x y e f p q = (determined p.0 q.0, determined p.1 q.1)

pub put_line-determined : (κs : _) (a : _) (x y : _) (e f : _) → put_line.Post κs a x e → put_line.Post κs a y f → (x ≡ y) × (e.0.now ≡ f.0.now)
put_line-determined κs a x y e f p q = (determined p.0 q.0, determined p.1 q.1)
