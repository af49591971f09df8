use mathlib.Core.Path.{refl}
use Rattle.rank.specs.Rank.{next_rank}
use Rattle.rank.proofs.next_rank.Goals as goal

pub returns : goal.returns
unfolding next_rank
returns c = refl
