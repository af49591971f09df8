use mathlib.Core.Path.{refl}
use Rattle.state.specs.State.{cells_of}
use Rattle.state.proofs.cells_of.Goals as goal

pub returns : goal.returns
unfolding cells_of
returns c = refl
