use lib.Seq.{length-take-le}
use mathlib.Core.Path.{ap, sym}
use Rattle.opening.specs.declared.Opened.{Opened}
use Rattle.fresh.proofs.open_rooms.Goals as goal

pub slice_bounds-opening-end : goal.slice_bounds-opening-end
slice_bounds-opening-end c = sym (length-take-le _ _ c.requires.0)

pub slice_bounds-opening-end-2 : goal.slice_bounds-opening-end-2
slice_bounds-opening-end-2 c = sym (length-take-le _ _ c.requires.1)

pub returns : goal.returns
returns c = ap (λ (o : Opened). o.machine) c.opening-opened.ensures
