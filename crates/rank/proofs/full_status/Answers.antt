use mathlib.Core.Path.{refl}
use Rattle.rank.specs.Rank.{full_status}
use Rattle.rank.proofs.full_status.Goals as goal

pub returns : goal.returns
unfolding full_status
returns c = refl
