use borrow.Author.Rules.{rules}
use Rattle.laws.proofs.Below.{below_all}
use Rattle.parts.specs.Parts.{atomic_stands, atomics_stand}
use Rattle.state.specs.State.{cells_of, atomic_at}
use Rattle.parts.proofs.atomics_stand.Goals as goal

pub returns : goal.returns
unfolding atomics_stand
returns g c = λ name named.
    below_all (λ i. atomic_stands (cells_of c.args.m) c.args.most (atomic_at c.args.m (name i))) c.args.n _ _
    c.all.result c.all.ensures.ran (λ x b q h. search (rules, named))
