use Rattle.image.specs.Image.{atomic_from}
use Rattle.image.proofs.atomic_from.Goals as goal

pub returns : goal.returns
unfolding atomic_from
returns c = rw (c.view_from-view.ensures, c.item_or-value.ensures)
