use borrow.Author.Rules.{rules}
use borrow.Author.Tests.{tests}
use lib.Dec.{leb}
use Rattle.laws.proofs.Below.{below_all}
use Rattle.step.specs.Limit.{most}
use Rattle.view.specs.View.{stamp_of, view_stands}
use Rattle.view.proofs.view_stands.Goals as goal

pub returns : goal.returns
unfolding view_stands
returns c = below_all (λ i. leb (stamp_of c.args.v i) most) c.args.k _ _ c.all.result c.all.ensures.ran (λ x b q h. search (rules, tests))
