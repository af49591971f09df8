use borrow.Author.Rules.{rules}
use Prim.Native.Nat.{◌+◌}
use Rattle.image.specs.Image.{word, view_from}
use Rattle.image.proofs.view_from.Goals as goal

pub returns : goal.returns
unfolding view_from
returns c = rw (c.filled.ensures (λ i. word c.args.s.now (c.args.p + i)) (λ i r h k. search rules))
