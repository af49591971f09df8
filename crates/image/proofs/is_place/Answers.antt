use borrow.Author.Rules.{rules}
use borrow.Author.Tests.{tests}
use lib.Dec.{eqb}
use Prim.Native.Nat.{◌+◌}
use Rattle.laws.proofs.Below.{below_all}
use Rattle.image.specs.Image.{word, is_place}
use Rattle.image.proofs.is_place.Goals as goal

pub returns : goal.returns
unfolding is_place
returns c =
    rw (← c.place_from.ensures, ← c.place_words-words.ensures)
    (below_all (λ i. eqb (word c.args.s.now (c.args.p + i)) (word c.place_words-words.result i)) 3 _ _ c.all.result c.all.ensures.ran
    (λ x b q h. search (rules, tests)))
