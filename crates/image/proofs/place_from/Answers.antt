use Rattle.image.specs.Image.{place_from}
use Rattle.image.proofs.place_from.Goals as goal

pub returns : goal.returns
unfolding place_from
returns c = rw (c.place_of.ensures, c.item_or-weight.ensures, c.item_or-rank.ensures, c.item_or-n.ensures)
