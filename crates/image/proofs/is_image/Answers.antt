use mathlib.Core.Path.{sym}
use borrow.Author.Rules.{rules}
use borrow.Author.Tests.{le-leb, lt-leb}
use Rattle.laws.proofs.Below.{below_all}
use Rattle.laws.proofs.Tests.{fails_left}
use Rattle.laws.specs.Tests.{◌and◌}
use Rattle.image.specs.Image.{thread_at, is_place, is_image}
use Rattle.image.proofs.is_image.Goals as goal

pub returns-then-s-lt1160 : goal.returns-then-s-lt1160
unfolding is_image
returns-then-s-lt1160 c = sym (fails_left _ _ (lt-leb _ _ c.if-s-lt1160.true))

pub returns : goal.returns
unfolding is_image ◌and◌
returns c =
    let e = below_all (λ i. is_place c.args.s.now (thread_at i)) 8 _ _ c.all.result c.all.ensures.ran (λ x b q h. search rules) in
    rw (le-leb _ _ c.if-s-lt1160.false) e
