use borrow.Author.Rules.{rules}
use Rattle.laws.proofs.Below.{below_all}
use Rattle.parts.specs.Parts.{thread_stands, threads_stand}
use Rattle.parts.proofs.threads_stand.Goals as goal

pub returns : goal.returns
unfolding threads_stand
returns c = below_all (thread_stands c.args.m) c.args.m.shape.threads _ _ c.all.result c.all.ensures.ran (λ x b q h. search rules)
