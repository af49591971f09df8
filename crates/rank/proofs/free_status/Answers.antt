use mathlib.Core.Path.{refl}
use Rattle.rank.specs.Rank.{free_status}
use Rattle.rank.proofs.free_status.Goals as goal

pub returns : goal.returns
unfolding free_status
returns c = refl
