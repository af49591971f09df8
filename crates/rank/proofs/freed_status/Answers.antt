use mathlib.Core.Path.{refl}
use Rattle.rank.specs.Rank.{free_status, lapped}
use Rattle.rank.proofs.freed_status.Goals as goal

pub returns : goal.returns
unfolding free_status lapped
returns c = refl
