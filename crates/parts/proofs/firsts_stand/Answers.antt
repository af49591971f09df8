use borrow.Author.Rules.{rules}
use borrow.Author.Tests.{tests}
use lib.Dec.{leb}
use Rattle.laws.proofs.Below.{below_all}
use Rattle.parts.specs.Parts.{firsts_stand}
use Rattle.state.specs.State.{first_of}
use Rattle.step.specs.Limit.{most}
use Rattle.parts.proofs.firsts_stand.Goals as goal

pub returns : goal.returns
unfolding firsts_stand
returns c =
    below_all (λ i. leb (first_of c.args.m i) most) c.args.m.shape.plain _ _ c.all.result c.all.ensures.ran
    (λ x b q h. search (rules, tests))
